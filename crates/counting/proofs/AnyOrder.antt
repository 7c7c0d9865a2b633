-- The records of the capabilities that are not zero, counted in another order: by the types, each has its count and the words of
-- its capabilities; and each request is of one type, so its words are counted once.
use Rattle.std.proofs.Common.{ℕ, suc, ◌+◌, ◌≡◌, refl, List, [], ◌∷◌, ◌++◌, arith}
use Rattle.rules.specs.Table.{Record}
use Rattle.rules.specs.Capabilities.{Kind, call, register, delete, set_entry, write, kinds, number, Capability}
use Rattle.rules.specs.Messages.{Request, same_kind, requested_of}
use Rattle.rules.specs.Calls.{word_records, capability_records, kind_records}
use Rattle.counting.specs.Counting.{non_zero, words_taken, requests_taken, kinds_taken}

non_zero-append : (a b : List Record) → non_zero (a ++ b) ≡ non_zero a + non_zero b
unfolding non_zero
non_zero-append [] b = omega arith
non_zero-append (r ∷ a) b = omega (arith, non_zero-append a b)

-- the words of several capabilities
capabilities_taken : List Capability → ℕ
capabilities_taken [] = 0
capabilities_taken (c ∷ cs) = words_taken c + capabilities_taken cs

module _ (p : ℕ) where
  words-records : (kind : Kind) (i k : ℕ) (c : Capability) → non_zero (word_records p kind i k c) ≡ words_taken c
  unfolding word_records non_zero words_taken
  words-records kind i k [] = refl
  words-records kind i k (w ∷ c) = omega (arith, words-records kind i (suc k) c)

  capabilities-records : (kind : Kind) (i : ℕ) (cs : List Capability)
      → non_zero (capability_records p kind i cs) ≡ capabilities_taken cs
  unfolding capability_records non_zero capabilities_taken
  capabilities-records kind i [] = refl
  capabilities-records kind i (c ∷ cs) =
      omega (
        arith,
        non_zero-append (word_records p kind i 0 c) (capability_records p kind (suc i) cs),
        words-records kind i 0 c,
        capabilities-records kind (suc i) cs,
      )

-- the words by types
by_kind_taken : List Request → List Kind → ℕ
by_kind_taken rs [] = 0
by_kind_taken rs (kind ∷ more) = capabilities_taken (requested_of kind rs) + by_kind_taken rs more

kinds-records : (p : ℕ) (rs : List Request) (ks : List Kind)
    → non_zero (kind_records p rs ks) ≡ kinds_taken rs ks + by_kind_taken rs ks
unfolding kind_records non_zero kinds_taken by_kind_taken
kinds-records p rs [] = refl
kinds-records p rs (kind ∷ ks) =
    omega (
      arith,
      non_zero-append (capability_records p kind 1 (requested_of kind rs)) (kind_records p rs ks),
      capabilities-records p kind 1 (requested_of kind rs),
      kinds-records p rs ks,
    )

-- each request counts for its own type and for no other
by-kind-one : (kind : Kind) (c : Capability) (rs : List Request)
    → by_kind_taken (record { kind = kind; capability = c } ∷ rs) kinds ≡ words_taken c + by_kind_taken rs kinds
unfolding by_kind_taken requested_of same_kind number capabilities_taken
by-kind-one call c rs = omega arith
by-kind-one register c rs = omega arith
by-kind-one delete c rs = omega arith
by-kind-one set_entry c rs = omega arith
by-kind-one write c rs = omega arith

by-kind-all : (rs : List Request) → by_kind_taken rs kinds ≡ requests_taken rs
unfolding by_kind_taken requested_of capabilities_taken requests_taken
by-kind-all [] = refl
by-kind-all (r ∷ rs) = omega (arith, by-kind-one r.kind r.capability rs, by-kind-all rs)

pub counted-anyhow : (p : ℕ) (rs : List Request) → kinds_taken rs kinds + requests_taken rs ≡ non_zero (kind_records p rs kinds)
counted-anyhow p rs = omega (arith, kinds-records p rs kinds, by-kind-all rs)
