-- What the type names, then the row before the type's own.
-- The returns in order: 66 e0; 66 eb; 66 e6; aa; 66 eb of Null; Null; the row of the type.
use Rattle.std.proofs.Common.{refl, arith}
use Rattle.rules.specs.Answers.{code_number}
use Rattle.system.proofs.MessageRow.{names-null, names-unknown, names-type, null-refused, null-done, unknown-refused, short-refused, overlong-refused, leading-refused, acceptable, own_row, data-short}
use Rattle.system.proofs.of_message.Goals as goal

pub returns-then-short : goal.returns-then-short
unfolding code_number
returns-then-short c =
    let type = names-type _ c.in-Of.ensures refl in
    rw (← c.data_of-d.ensures)
    (short-refused _ _ _ _ _ type c.short.ensures c.if-short.true)

pub returns-then-overlong : goal.returns-then-overlong
unfolding code_number
returns-then-overlong c =
    let type = names-type _ c.in-Of.ensures refl in
    rw (← c.data_of-d.ensures)
    (overlong-refused _ _ _ _ _ type c.short.ensures c.if-short.false c.overlong-overlong.ensures c.if-overlong.true)

pub returns-then-leading : goal.returns-then-leading
unfolding code_number
returns-then-leading c =
    let type = names-type _ c.in-Of.ensures refl in
    rw (← c.data_of-d.ensures)
    (leading-refused _ _ _ _ _ type c.short.ensures c.if-short.false c.overlong-overlong.ensures c.if-overlong.false
    c.leading-leading.ensures c.if-leading.true)

pub of_kind-requires : goal.of_kind-requires
of_kind-requires c =
    let type = names-type _ c.in-Of.ensures refl in record {
      sound_table = c.requires.sound_table;
      acceptable = acceptable _ type c.short.ensures c.if-short.false c.leading-leading.ensures c.if-leading.false
          (rw c.data_of-d.ensures (data-short _ c.requires.message_len_bound));
    }

pub returns-in-Unknown : goal.returns-in-Unknown
unfolding code_number
returns-in-Unknown c =
    unknown-refused _ _ _ _ _ (names-unknown _ c.in-Unknown.ensures refl)

pub returns-then-d-gt0 : goal.returns-then-d-gt0
unfolding code_number
returns-then-d-gt0 c =
    rw (← c.data_of-d.ensures)
    (null-refused _ _ _ _ _ (names-null _ c.in-Null.ensures refl) (omega (arith, c.if-d-gt0.true)))

pub returns-else-d-gt0 : goal.returns-else-d-gt0
returns-else-d-gt0 c =
    rw (← c.data_of-d.ensures)
    (null-done _ _ _ _ _ (names-null _ c.in-Null.ensures refl) c.if-d-gt0.false)

pub returns-else-leading : goal.returns-else-leading
returns-else-leading c =
    let type = names-type _ c.in-Of.ensures refl in
    rw (← c.data_of-d.ensures)
    (own_row _ _ _ _ _ type c.short.ensures c.if-short.false c.overlong-overlong.ensures c.if-overlong.false
    c.leading-leading.ensures c.if-leading.false c.of_kind.ensures)
