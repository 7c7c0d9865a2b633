-- A host may take the payload out of its message as the struct says: it ends within the message. A Call with fewer than 64 bytes
-- of data is refused, so the place is within the message, and the payload is the rest from there on.
use Prim.Native.Nat.{◌+◌, ◌≤◌}
use mathlib.Core.List.{List, ◌++◌}
use lib.Dec.{ltb}
use lib.ListN.{length, drop, length-drop}
use native.Mathlib.Omega.{arith}
use borrow.Author.Tests.{ltb-false}
use Rattle.rules.specs.Words.{Bytes}
use Rattle.rules.specs.Table.{room, store}
use Rattle.rules.specs.Capabilities.{Kind, call, register, delete, set_entry, write}
use Rattle.rules.specs.Messages.{Named, null, unknown, of_kind, named, type_of, data_of, payload_of, minimum}
use Rattle.rules.specs.Answers.{e0, fields, Result, Check, ◌⇒◌, judge, outcome}
use Rattle.rules.specs.Calls.{own_effect, format_row, named_row, named_effect, system_row, system_call}
use Rattle.laws.proofs.Rows.{Passes, judge-cases, member}
use Rattle.replies.specs.declared.Reply.{Reply}
use Rattle.replies.specs.Exports.{place_of, exported, Exports}

module _ (t m : Bytes) where
  Inside : Result → Type 0
  Inside r = place_of (outcome t r).answer + length (fields (outcome t r).answer).payload ≤ length m

  -- a refusal has no payload, so of a row of checks its result decides
  row_inside : (cs : List Check) (r : Result) → (Passes cs → Inside r) → Inside (judge cs r)
  unfolding Inside outcome place_of fields
  row_inside cs r h = judge-cases Inside cs r (λ c i e. omega arith) h

  kind-inside : (kind : Kind) → minimum kind ≤ length (data_of m) → Inside (own_effect (store t) (data_of m) kind)
  unfolding Inside outcome place_of fields minimum data_of payload_of
  kind-inside call h = omega (arith, h, length-drop 64 (drop 1 m), length-drop 1 m)
  kind-inside register h = omega arith
  kind-inside delete h = omega arith
  kind-inside set_entry h = omega arith
  kind-inside write h = omega arith

  named-inside : (code mask : Bytes) (n : Named) → Passes (system_row t m mask ++ named_row (room t) (store t) (data_of m) code mask n)
      → Inside (named_effect (store t) (data_of m) n)
  unfolding Inside outcome place_of fields system_row format_row named_row
  named-inside code mask null ps = omega arith
  named-inside code mask unknown ps = omega arith
  named-inside code mask (of_kind kind) ps =
      kind-inside kind
      (ltb-false (length (data_of m)) (minimum kind) (ps (ltb (length (data_of m)) (minimum kind) ⇒ e0) (search member depth 12)))

pub payload-inside : {r : Reply} {after : Bytes} (t m code mask : Bytes) → Exports (system_call t m code mask) r after
    → r.payload_at + r.payload_len ≤ length m
unfolding system_call exported Inside
payload-inside t m code mask e = rw e.reply (row_inside t m _ _ (named-inside t m code mask (named (type_of m))))
