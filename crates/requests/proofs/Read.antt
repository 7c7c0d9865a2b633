-- The code's tests of a request, each by the type's number n, its words k and the size s that were read as far as the limit:
-- one that fails is failed by no good request, and one that passes them all is good.
use Rattle.std.proofs.Common.{ℕ, min, ◌+◌, ◌*◌, ◌≤◌, ◌<◌, length, drop, None, Some, ◌≡◌, sym, ap, ◌∙◌, Bool, true, false, true≢false, arith}
use Rattle.std.specs.Bool.{then_some}
use Rattle.std.proofs.Math.Option.{some}
use Rattle.rules.specs.Words.{Bytes, word_at}
use Rattle.rules.specs.Capabilities.{Kind, kind_of, word_count, prefix_in_range}
use Rattle.rules.specs.Source.{is_type, words_of, OfType}
use Rattle.words.specs.Words.{small_limit}
use Rattle.laws.proofs.KindFacts.{kind_of-some, word_count-small}
use Rattle.laws.proofs.WordLists.{length-words}
use Rattle.rights.specs.Rights.{capability_in}
use Rattle.requests.specs.Requests.{first_request, request_length}
use Rattle.requests.proofs.Types.{Names, names, named, named-known, named-words}
use Rattle.requests.proofs.Here.{Good, Judged, bad, good, good-here, judge}

module _ (rest : Bytes) where
  no-good : ((kind : Kind) → Good rest kind → ⊥) → None ≡ request_length (first_request rest)
  unfolding request_length
  no-good h = go (judge rest)
    where
      go : Judged rest → None ≡ request_length (first_request rest)
      go (bad e) = rw e
      go (good kind g) = absurd (h kind g)

  pub good-bytes : (kind : Kind) → Good rest kind → Some (64 + 32 * word_count kind) ≡ request_length (first_request rest)
  unfolding request_length
  good-bytes kind g = rw (good-here rest kind g, length-words)

  pub too_short : length rest < 64 → None ≡ request_length (first_request rest)
  too_short h = no-good (λ kind g. omega (arith, g.within))

  pub wrong_type : is_type (word_at rest 32) ≡ false → None ≡ request_length (first_request rest)
  wrong_type q = no-good (λ kind g. true≢false (sym (named-known (word_at rest 32) kind g.type) ∙ q))

-- the type that the request's CapType names
module _ (rest : Bytes) (n : ℕ) (is_n : n ≡ word_at rest 32) where
  good-names : (kind : Kind) → Good rest kind → kind_of n ≡ some kind
  good-names kind g = ap kind_of is_n ∙ g.type

  wrong-prefix : OfType n (λ kind. false ≡ prefix_in_range kind (capability_in kind (drop 64 rest)))
      → None ≡ request_length (first_request rest)
  wrong-prefix q =
      no-good rest (λ kind g. true≢false (sym (q kind (kind_of-some n kind (good-names kind g)) ∙ g.in_range)))

  module _ (k : ℕ) (is_k : k ≡ words_of n) where
    good-words : (kind : Kind) → Good rest kind → k ≡ word_count kind
    good-words kind g = is_k ∙ named-words n kind (good-names kind g)

    pub cut-end : length rest < 64 + 32 * k → None ≡ request_length (first_request rest)
    cut-end h = no-good rest (λ kind g. omega (arith, g.within, good-words kind g))

    module _ (s : ℕ) (is_s : s ≡ min (word_at rest 0) small_limit) where
      pub wrong_size : (s ≡ 1 + k → ⊥) → None ≡ request_length (first_request rest)
      wrong_size h =
          no-good rest (λ kind g. h (omega (arith, is_s, g.size, word_count-small kind, good-words kind g)))

      all-good : is_type n ≡ true → s ≡ 1 + k → 64 + 32 * k ≤ length rest
          → OfType n (λ kind. true ≡ prefix_in_range kind (capability_in kind (drop 64 rest)))
          → Some (64 + 32 * k) ≡ request_length (first_request rest)
      all-good q size l p = go (named n q)
        where
          go : Names n → Some (64 + 32 * k) ≡ request_length (first_request rest)
          go (names kind e) =
              let count : k ≡ word_count kind = is_k ∙ named-words n kind e in
              ap (λ (x : ℕ). Some (64 + 32 * x)) count
              ∙ good-bytes rest kind (
              record {
                within = omega (arith, count);
                type = sym (ap kind_of is_n) ∙ e;
                size = omega (arith, is_s, size, count, word_count-small kind);
                in_range = sym (p kind (kind_of-some n kind e));
              })

      -- the last test
      pub prefix-decides : is_type n ≡ true → s ≡ 1 + k → 64 + 32 * k ≤ length rest → (b : Bool)
          → OfType n (λ kind. b ≡ prefix_in_range kind (capability_in kind (drop 64 rest)))
          → then_some b (64 + 32 * k) ≡ request_length (first_request rest)
      prefix-decides q size l true p = all-good q size l p
      prefix-decides q size l false p = wrong-prefix p
