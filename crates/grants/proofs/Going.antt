-- The loop over the requests: the tests so far and those of the requests that are left make up the whole.
-- A request has at least 64 bytes and takes at most 255 tests, so the sum stays small.
use Rattle.std.proofs.Common.{ℕ, ◌+◌, ◌*◌, ◌≤◌, arith, ◌≡◌, sym, ap, ◌∙◌, true, false, [], length, None, Some}
use Rattle.rules.specs.Words.{Bytes, word_bytes, num}
use Rattle.rules.specs.Table.{Store, store}
use Rattle.rules.specs.Capabilities.{Capability, within}
use Rattle.rules.specs.Procedures.{current, held}
use Rattle.rules.specs.Sound.{all_of, any_of, sound_table}
use Rattle.rules.specs.Messages.{requests}
use Rattle.rules.specs.Calls.{contained, tests_in, tests}
use Rattle.laws.proofs.SoundTests.{all-passed, all-failed}
use Rattle.words.specs.Words.{Holds}
use Rattle.held.specs.Held.{Reached, Unread, SearchNeeds, Searched}
use Rattle.held.specs.declared.Held.{Held}
use Rattle.held.specs.declared.Search.{Search}
use Rattle.held.proofs.Copies.{unread-reached}
use Rattle.key_words.specs.KeyWords.{KeyPart}
use Rattle.series.specs.Series.{left, bytes_left, AllLeft, FirstLeft}
use Rattle.series.specs.declared.Request.{Request as Found}
use Rattle.series.specs.declared.Series.{Series}
use Rattle.acting.proofs.Holder.{holder, current-kind-sound}
use Rattle.grants.specs.Grants.{Granted}

-- the registrar's key, how far what it holds was read, and the requests judged before those that are left
pub record Going (s : Store) (d : Bytes) (registrar : ℕ) (h : Held) (it : Series) (sum : ℕ) : Type 0 where
  pub holder : registrar ≡ current s
  pub reached : Reached s registrar h
  pub all : all_of (contained s) (requests d) ≡ all_of (contained s) (left it)
  pub total : tests s (requests d) ≡ sum + tests s (left it)
  pub few : sum + 4 * bytes_left it ≤ 4 * length d

pub going-starts : (t : Bytes) → sound_table t ≡ true → {w part : Bytes} → Holds word_bytes w (current (store t))
    → KeyPart (num w) part → {n : ℕ} {h : Held} → Unread (store t) (num part) n h
    → {d : Bytes} {it : Series} → AllLeft d it → Going (store t) d (num part) h it 0
going-starts t g w k u a =
    record {
      holder = holder t g w k;
      reached = unread-reached u;
      all = ap (all_of (contained (store t))) (sym a.all);
      total = let whole = ap (tests (store t)) a.all in omega (arith, whole);
      few = omega (arith, a.bytes);
    }

module _ (t : Bytes) (g : sound_table t ≡ true) {d : Bytes} {p : ℕ} {before : Held} {it : Series} {sum : ℕ}
    (i : Going (store t) d p before it sum) {f : Found} {more : Series} (r : FirstLeft it f more) where
  pub search-needs : SearchNeeds (store t) p f.kind.0 f.words.now
  search-needs =
      record {
        kind = r.request.kind;
        names = sym r.type;
        sound = rw i.holder (current-kind-sound t g r.request.kind);
        size = omega (arith, r.size);
      }

  module _ {h : Held} {x : Search} (found : Searched (store t) p f.kind.0 f.words.now h x) where
    -- what it found, of the request itself and of what the current procedure holds
    is-contained : x.contained ≡ contained (store t) r.request
    unfolding contained
    is-contained =
        found.contained r.request.kind (sym r.type)
        ∙ ap (λ (c : Capability). any_of (within r.request.kind c) (held (store t) p r.request.kind)) (sym r.capability)
        ∙ ap (λ (y : ℕ). any_of (within r.request.kind r.request.capability) (held (store t) y r.request.kind)) i.holder

    its-tests : x.tests ≡ tests_in r.request.kind r.request.capability (held (store t) (current (store t)) r.request.kind)
    its-tests =
        found.tests r.request.kind (sym r.type)
        ∙ ap (λ (c : Capability). tests_in r.request.kind c (held (store t) p r.request.kind)) (sym r.capability)
        ∙ ap (λ (y : ℕ). tests_in r.request.kind r.request.capability (held (store t) y r.request.kind)) i.holder

    pub going_on : x.contained ≡ true → Going (store t) d p h more (sum + x.tests)
    unfolding tests
    going_on q =
        let here : tests (store t) (left it) ≡ x.tests + tests (store t) (left more) =
        ap (tests (store t)) r.first ∙ ap (λ (n : ℕ). n + tests (store t) (left more)) (sym its-tests) in
        record {
          holder = i.holder;
          reached = found.reached;
          all =
              i.all
              ∙ ap (all_of (contained (store t))) r.first
              ∙ all-passed (contained (store t)) r.request (left more) (sym is-contained ∙ q);
          total = omega (arith, i.total, here);
          few = omega (arith, i.few, found.small, r.bytes);
        }

    pub not-granted : x.contained ≡ false → Granted (store t) (requests d) None
    not-granted q =
        i.all
        ∙ ap (all_of (contained (store t))) r.first
        ∙ all-failed (contained (store t)) r.request (left more) (sym is-contained ∙ q)

pub all-granted : {s : Store} {d : Bytes} {p : ℕ} {h : Held} {it : Series} {sum : ℕ} → Going s d p h it sum
    → left it ≡ [] → Granted s (requests d) (Some sum)
unfolding all_of tests
all-granted {s} i e =
    let no_more = ap (tests s) e in
    (i.all ∙ ap (all_of (contained s)) e, omega (arith, i.total, no_more))
