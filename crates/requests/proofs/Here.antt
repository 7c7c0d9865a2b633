-- A series' first request. It is malformed, or it has a type and all that the rules ask of a request of that type:
-- so a test that fails is one that no good request fails, and a request that passes them all is the good one.
use Rattle.std.proofs.Common.{ℕ, suc, ◌+◌, ◌*◌, ◌/◌, ◌≤◌, ◌<◌, ◌≡◌, refl, ap, ◌∙◌, List, ◌∷◌, length, take, drop, Bool, true, false, ◌&&◌, eqb, leb, arith, leb-true, leb-false, le-leb, eqb-true, eq-eqb, length-drop, drop-drop}
use Rattle.std.proofs.lemmas.Bool.{lt-leb}
use Rattle.std.proofs.Math.Option.{Option as Maybe, none, some}
use Rattle.rules.specs.Words.{Bytes, word_at, words}
use Rattle.rules.specs.Capabilities.{Kind, kind_of, word_count, prefix_in_range}
use Rattle.rules.specs.Messages.{Request, request_of, request_at}
use Rattle.laws.proofs.WordLists.{length-words, take_words}
use Rattle.rights.specs.Rights.{capability_in}
use Rattle.requests.specs.Requests.{words_in, first_request, request_of_kind}

-- a first request of a type, whole and with its prefix in range
pub record Good (rest : Bytes) (kind : Kind) : Type 0 where
  pub within : 64 + 32 * word_count kind ≤ length rest
  pub type : kind_of (word_at rest 32) ≡ some kind
  pub size : word_at rest 0 ≡ 1 + word_count kind
  pub in_range : prefix_in_range kind (capability_in kind (drop 64 rest)) ≡ true

pub data Judged (rest : Bytes) : Type 0 where
  bad : first_request rest ≡ none → Judged rest
  good : (kind : Kind) → Good rest kind → Judged rest

pub words-first : (bs : Bytes) → 32 ≤ length bs → words_in bs ≡ word_at bs 0 ∷ words_in (drop 32 bs)
unfolding words_in words word_at
words-first bs h =
    let more = length-drop 32 bs in
    let one : length bs / 32 ≡ suc (length (drop 32 bs) / 32) = omega arith in
    rw one

-- the tests of a request of a kind
tests : Kind → ℕ → List ℕ → Bool
tests kind size ws =
    eqb size (1 + word_count kind) && leb (word_count kind) (length ws) && prefix_in_range kind (take (word_count kind) ws)

fails : (kind : Kind) (size : ℕ) (ws : List ℕ) → tests kind size ws ≡ false → request_of kind size ws ≡ none
unfolding request_of tests
fails kind size ws e = rw (e, request_of)

passes : (kind : Kind) (size : ℕ) (ws : List ℕ) → tests kind size ws ≡ true
    → request_of kind size ws ≡ some (record { kind = kind; capability = take (word_count kind) ws })
unfolding request_of tests
passes kind size ws e = rw (e, request_of)

module _ (rest : Bytes) where
  -- a request's words are those after its CapType
  capability-first : (kind : Kind) → 64 + 32 * word_count kind ≤ length rest
      → take (word_count kind) (words_in (drop 64 rest)) ≡ capability_in kind (drop 64 rest)
  unfolding words_in
  capability-first kind h =
      let more = length-drop 64 rest in
      take_words (word_count kind) (length (drop 64 rest) / 32) (drop 64 rest) (omega arith)

  count-in : length (words_in (drop 64 rest)) ≡ length (drop 64 rest) / 32
  unfolding words_in
  count-in = length-words (length (drop 64 rest) / 32) (drop 64 rest)

  count_fits : (kind : Kind) → 64 + 32 * word_count kind ≤ length rest
      → leb (word_count kind) (length (words_in (drop 64 rest))) ≡ true
  count_fits kind h =
      let l : word_count kind ≤ length (words_in (drop 64 rest)) = omega (arith, count-in, length-drop 64 rest) in
      le-leb _ _ l

  count_cut : (kind : Kind) → 64 ≤ length rest → length rest < 64 + 32 * word_count kind
      → leb (word_count kind) (length (words_in (drop 64 rest))) ≡ false
  count_cut kind h l =
      let m : length (words_in (drop 64 rest)) < word_count kind = omega (arith, count-in, length-drop 64 rest) in
      lt-leb _ _ m

  -- the request's type decides what is asked
  two-words : 64 ≤ length rest → words_in (drop 32 rest) ≡ word_at rest 32 ∷ words_in (drop 64 rest)
  unfolding word_at
  two-words h =
      words-first (drop 32 rest) (omega (arith, length-drop 32 rest))
      ∙ ap (λ (bs : Bytes). word_at rest 32 ∷ words_in bs) (drop-drop 32 32 rest)

  here-kind : (kind : Kind) → 64 ≤ length rest → kind_of (word_at rest 32) ≡ some kind
      → first_request rest ≡ request_of kind (word_at rest 0) (words_in (drop 64 rest))
  unfolding first_request request_at
  here-kind kind h e = ap (request_at (word_at rest 0)) (two-words h) ∙ rw (e, request_at)

  here-no-kind : 64 ≤ length rest → kind_of (word_at rest 32) ≡ none → first_request rest ≡ none
  unfolding first_request request_at
  here-no-kind h e = ap (request_at (word_at rest 0)) (two-words h) ∙ rw (e, request_at)

  here-short : length rest < 64 → first_request rest ≡ none
  unfolding first_request request_at words_in words
  here-short h =
      let more = length-drop 32 rest in
      let e : length (drop 32 rest) / 32 ≡ 0 = omega arith in
      ap (λ (n : ℕ). request_at (word_at rest 0) (words n (drop 32 rest))) e

  -- a good request is the one that is read
  pub good-here : (kind : Kind) → Good rest kind → first_request rest ≡ some (request_of_kind rest kind)
  unfolding tests
  good-here kind g =
      let cap = capability-first kind g.within in
      let all : tests kind (word_at rest 0) (words_in (drop 64 rest)) ≡ true =
      simp (eq-eqb _ _ g.size, count_fits kind g.within, cap, g.in_range) in
      here-kind kind (omega (arith, g.within)) g.type
      ∙ passes kind (word_at rest 0) (words_in (drop 64 rest)) all
      ∙ ap (λ ws. some (record { kind = kind; capability = ws })) cap

  pub judge : Judged rest
  unfolding tests
  judge = long (leb 64 (length rest)) refl
    where
      prefixed : (kind : Kind) → 64 ≤ length rest → kind_of (word_at rest 32) ≡ some kind → word_at rest 0 ≡ 1 + word_count kind
          → 64 + 32 * word_count kind ≤ length rest
          → (b : Bool) → prefix_in_range kind (capability_in kind (drop 64 rest)) ≡ b → Judged rest
      prefixed kind h e s w true p = good kind (record { within = w; type = e; size = s; in_range = p })
      prefixed kind h e s w false p =
          bad (here-kind kind h e ∙ fails kind _ _ (simp (eq-eqb _ _ s, count_fits kind w, capability-first kind w, p)))

      counted : (kind : Kind) → 64 ≤ length rest → kind_of (word_at rest 32) ≡ some kind → word_at rest 0 ≡ 1 + word_count kind
          → (b : Bool) → leb (64 + 32 * word_count kind) (length rest) ≡ b → Judged rest
      counted kind h e s true q =
          prefixed kind h e s (leb-true _ _ q) (prefix_in_range kind (capability_in kind (drop 64 rest))) refl
      counted kind h e s false q =
          bad (here-kind kind h e ∙ fails kind _ _ (simp (eq-eqb _ _ s, count_cut kind h (leb-false _ _ q))))

      sized : (kind : Kind) → 64 ≤ length rest → kind_of (word_at rest 32) ≡ some kind
          → (b : Bool) → eqb (word_at rest 0) (1 + word_count kind) ≡ b → Judged rest
      sized kind h e true q = counted kind h e (eqb-true _ _ q) (leb (64 + 32 * word_count kind) (length rest)) refl
      sized kind h e false q = bad (here-kind kind h e ∙ fails kind _ _ (simp q))

      typed : 64 ≤ length rest → (o : Maybe Kind) → kind_of (word_at rest 32) ≡ o → Judged rest
      typed h none e = bad (here-no-kind h e)
      typed h (some kind) e = sized kind h e (eqb (word_at rest 0) (1 + word_count kind)) refl

      long : (b : Bool) → leb 64 (length rest) ≡ b → Judged rest
      long true q = typed (leb-true _ _ q) (kind_of (word_at rest 32)) refl
      long false q = bad (here-short (leb-false _ _ q))
