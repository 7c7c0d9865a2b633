-- Each type asks its own comparison: the words that come first are the capability.
use Rattle.std.proofs.Common.{rules, arith}
use Rattle.rights.proofs.ByKind.{not-write, prefixed, has_first, has-second, prefix-fits, key-number}
use Rattle.rights.proofs.ByKind.{entry-covers, range-covers, prefix-covers}
use Rattle.rights.proofs.covers.Goals as goal

pub returns-in-SET_ENTRY : goal.returns-in-SET_ENTRY
returns-in-SET_ENTRY c = λ k p. entry-covers k p (search rules) _ _

pub word_at-first-requires : goal.word_at-first-requires
word_at-first-requires c = let need = c.requires in omega (arith, has-second need.kind need.names (search rules) need.size)

pub word_at-requires : goal.word_at-requires
word_at-requires c = let need = c.requires in has-second need.kind need.names (search rules) need.size

pub word_at-base-requires : goal.word_at-base-requires
word_at-base-requires c = let need = c.requires in has_first need.kind need.names (search rules) need.size

pub covers_key-requires : goal.covers_key-requires
covers_key-requires c =
    let need = c.requires in
    prefix-fits (prefixed need.kind need.names (search rules) (search rules)) c.word_at-base.ensures need.in_range

pub returns-in-WRITE : goal.returns-in-WRITE
returns-in-WRITE c = λ k p.
    range-covers k p (search rules) _ c.word_at-first.ensures c.word_at.ensures c.covers_address.ensures

pub returns-in_default : goal.returns-in_default
returns-in_default c = λ k p.
    let need = c.requires in
    let key = need.key (not-write need.kind need.names (search rules)) in
    let named = key-number c.key_part.ensures c.told-x c.fits-x key in
    prefix-covers k p (search rules) (search rules) c.word_at-base.ensures named c.covers_key.ensures
