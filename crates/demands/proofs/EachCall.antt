-- Each call of the defined kernel on a good table is a `GoodStep`, except a set-up that succeeds, which begins anew.
-- A row refuses; or it passes, and what its checks say is what the lemmas about that call's store need.
use Prim.Native.Nat.{ℕ, suc, ◌≤◌, ◌<◌}
use native.Mathlib.Omega.{arith}
use mathlib.Core.Path.{◌≡◌, refl, sym, ap, ◌∙◌, subst}
use mathlib.Core.Logic.{◌≢◌, ◌⊎◌, inl, inr}
use mathlib.Core.List.{List}
use mathlib.Core.Bool.{true, false, true≢false, not}
use lib.Dec.{eqb, ltb}
use lib.ListN.{length}
use borrow.Author.Tests.{eqb-false, leb-false, ltb-false, eq-eqb, ne_eqb}
use Rattle.rules.specs.Words.{Bytes, Every, AllBytes, num}
use Rattle.rules.specs.Table.{Store, get, put, room, store, Sized}
use Rattle.rules.specs.KernelStorage.{in_kernel_storage, current_slot, entry_slot}
use Rattle.rules.specs.Capabilities.{Kind, call, register, delete, set_entry, write, number, covers, within}
use Rattle.rules.specs.Procedures.{count_of, current, entry_key, capability, held, Listed, listed}
use Rattle.rules.specs.Sound.{all_of}
use Rattle.rules.specs.Messages.{series_at, type_of, data_of, Named, null, unknown, of_kind, named, minimum, index_word, key_word, address_word, write_address, write_value, key_too_long, address_too_long, leading_bytes, Request, requests, requested_of}
use Rattle.rules.specs.Answers.{e0, aa, e6, e4, x33, x77, e1, e2, e3, x6633, e7, done, registered, fields, succeeds, change, ◌⇒◌, ◌then◌, Outcome, outcome}
use Rattle.rules.specs.Calls.{is_zero, no_room, after_register, set_up_row, set_up, turn_row, turn, look_row, look, index_out_of_range, chosen, not_covering, call_row, call_effect, set_entry_row, set_entry_effect, after_delete, delete_row, delete_effect, write_row, write_effect, contained, tests, too_many, register_row, register_effect, own_row, do_kind, format_row, named_row, do_named, system_row, system_call}
use Rattle.demands.specs.Kernels.{State, AnyCall, setting_up, turning, looking, calling, LentBytes, starts, asks_to_register, defined_on, started_anew, registers, registrar_of}
use Rattle.demands.specs.Demands.{IsWrite, LiesWithinOne, CoveredWrite}
use Rattle.laws.proofs.Bools.{or_left, or_right, tests-true}
use Rattle.laws.proofs.Numbers.{same_or_not, non_zero}
use Rattle.laws.proofs.Lists.{all_true, any-every}
use Rattle.laws.proofs.Words.{drop-bytes, word_at-bound, words-bound}
use Rattle.laws.proofs.Stores.{get-put-same, get-put-other}
use Rattle.laws.proofs.KindFacts.{named-number, named-kind}
use Rattle.laws.proofs.Rows.{member, passed-not, judge-cases, judge-append}
use Rattle.laws.proofs.Places.{listed-fits}
use Rattle.laws.proofs.Procedures.{Good, short, listed-true, listed_here, each-held, body_of}
use Rattle.laws.proofs.TableDecides.{GoodTable, written-store}
use Rattle.demands.proofs.Frame.{framed-same}
use Rattle.demands.proofs.OneSlot.{current-in, entry_in, turn-keeps, set_entry-keeps, kernel-apart, write_keeps}
use Rattle.demands.proofs.Deletion.{Deletion}
use Rattle.demands.proofs.Delete.{delete-keeps, delete-same, delete-outside}
use Rattle.laws.proofs.RegisterRecords.{Registration}
use Rattle.demands.proofs.Register.{register-keeps, register-same, registered-held, registered-outside}
use Rattle.laws.proofs.SeriesRequests.{requested-every, requests-each, requests-storable}
use Rattle.demands.proofs.SizedStores.{IsWord, put-sized, kernel-word, key-word, after_delete-sized, after_register-sized}
use Rattle.demands.proofs.Step.{event_on, GoodStep, Quiet, change-step, quiet-lawful, answer-step, refuse-step, row_step}

-- What Register found contained lies within a single capability of the current procedure.
contained-within : (s : Store) (r : Request) → contained s r ≡ true → LiesWithinOne s (current s) r.kind r.capability
unfolding contained
contained-within s r =
    any-every (within r.kind r.capability) (held s (current s) r.kind) (
    each-held (λ c. within r.kind r.capability c ≡ true → LiesWithinOne s (current s) r.kind r.capability)
    s (current s) r.kind (λ i first last h. record { which = i; first = first; last = last; inside = h }))

requested-within : (s : Store) (kind : Kind) (rs : List Request) → all_of (contained s) rs ≡ true
    → Every (LiesWithinOne s (current s) kind) (requested_of kind rs)
requested-within s kind rs h =
    requested-every (λ r. contained s r ≡ true) (LiesWithinOne s (current s) kind) kind
    (λ r is q. subst (λ (x : Kind). LiesWithinOne s (current s) x r.capability) is (contained-within s r q))
    rs (all_true (contained s) rs h)

-- What the rows of Write and of Register show once they have passed; Delete's shows a `Deletion`.
record WritePassed (rooms : ℕ) (s : Store) (d : Bytes) : Type 0 where
  index : index_word d < count_of s (current s) write
  covered : covers write (capability s (current s) write (suc (index_word d))) (write_address d) ≡ true
  outside : in_kernel_storage (write_address d) ≡ false
  fits : length (put s (write_address d) (write_value d)) ≤ rooms

record RegisterPassed (rooms : ℕ) (s : Store) (d : Bytes) : Type 0 where
  registration : Registration s (key_word d) (address_word d) (requests d)
  all_contained : all_of (contained s) (requests d) ≡ true
  fits : length (after_register s (key_word d) (address_word d) (requests d)) ≤ rooms

module _ (σ : State) (g : GoodTable σ.table) where
  abbrev t : Bytes
  t = σ.table

  abbrev s : Store
  s = store t

  -- Turn and Set Entry store a listed key in a slot of kernel storage, the current one or the entry's.
  record KeyStored (c : AnyCall) (x p : ℕ) : Type 0 where
    quiet : Quiet σ c (outcome t (change done (put s x p)))
    not_write : IsWrite c → ⊥
    inside : in_kernel_storage x ≡ true
    one_of_two : (k : ℕ) → (k ≡ current_slot → ⊥) → (k ≡ entry_slot → ⊥) → k ≡ x → ⊥
    is_listed : Listed s p
    good : Good (room t) (put s x p)

  key_step : {c : AnyCall} {x p : ℕ} → KeyStored c x p → GoodStep σ c (outcome t (change done (put s x p)))
  key_step {c} {x} {p} h =
      change-step σ g c done (put s x p) h.good
      (put-sized s x p (kernel-word x h.inside) (key-word p (listed-fits (body_of g.good) h.is_listed)) g.sized)
      (quiet-lawful σ g c _ _ h.quiet h.not_write
      (framed-same s _ g.good.sound (short g.good) (λ k in_k d e. get-put-other s x p k (h.one_of_two k d e)))
      (λ k out. get-put-other s x p k (λ q. kernel-apart k x out h.inside (sym q))))

  turn_step : (k : Bytes) → GoodStep σ (turning k) (turn t k)
  unfolding turn turn_row registers asks_to_register
  turn_step k =
      row_step σ g (turning k) _ _ (λ ps. turned
      (listed-true s (num k) (passed-not (ps (not (listed s (num k)) ⇒ x6633) (search member depth 12)))))
    where
      turned : Listed s (num k) → GoodStep σ (turning k) (outcome t (change done (put s current_slot (num k))))
      turned l =
          key_step (record {
            quiet = λ q. refl;
            not_write = λ w. w;
            inside = current-in;
            one_of_two = λ k not_current not_entry. not_current;
            is_listed = l;
            good = turn-keeps (room t) s g.good (num k) l;
          })

  look-step : (k : Bytes) → GoodStep σ (looking k) (look t k)
  unfolding look look_row registers asks_to_register
  look-step k = row_step σ g (looking k) _ _ (λ ps. answer-step σ g (looking k) _ (λ p. refl) (λ w. w))

  -- a set-up that does not succeed is refused
  set_up-step : (k a ka : Bytes) → succeeds (set_up t k a ka).answer ≡ false → GoodStep σ (setting_up k a ka) (set_up t k a ka)
  unfolding set_up set_up_row outcome succeeds fields
  set_up-step k a ka =
      judge-cases (λ r. succeeds (outcome t r).answer ≡ false → GoodStep σ (setting_up k a ka) (outcome t r)) _ _
      (λ check i e h. refuse-step σ g (setting_up k a ka) check.code)
      (λ ps h. absurd (true≢false h))

  -- The system calls, by the message m.
  module _ (m code mask : Bytes) (lent : AllBytes m) where
    abbrev c : AnyCall
    c = calling m code mask

    abbrev d : Bytes
    d = data_of m

    data-bytes : AllBytes d
    data-bytes = unfold data_of in (drop-bytes 1 m lent)

    -- a type other than Register's registers nothing, and one other than Write's is no Write
    quiet-kind : (kind : Kind) → type_of m ≡ number kind → eqb (number kind) (number register) ≡ false → (o : Outcome) → Quiet σ c o
    unfolding registers asks_to_register
    quiet-kind kind is apart o p = rw (is, apart)

    not-write : (kind : Kind) → type_of m ≡ number kind → eqb (number kind) (number write) ≡ false → IsWrite c → ⊥
    not-write kind is apart w = eqb-false _ _ apart (sym is ∙ w)

    call_step : type_of m ≡ number call → GoodStep σ c (outcome t (call_row s d then call_effect s d))
    unfolding call_row number
    call_step is = row_step σ g c _ _ (λ ps. answer-step σ g c _ (quiet-kind call is refl _) (not-write call is refl))

    set_entry-step : type_of m ≡ number set_entry → GoodStep σ c (outcome t (set_entry_row s d then set_entry_effect s d))
    unfolding set_entry_row number
    set_entry-step is =
        row_step σ g c _ _ (λ ps. entered
        (listed-true s (key_word d) (passed-not (ps (not (listed s (key_word d)) ⇒ x6633) (search member depth 12)))))
      where
        entered : Listed s (key_word d) → GoodStep σ c (outcome t (change done (put s entry_slot (key_word d))))
        entered l =
            key_step (record {
              quiet = quiet-kind set_entry is refl _;
              not_write = not-write set_entry is refl;
              inside = entry_in;
              one_of_two = λ k not_current not_entry. not_entry;
              is_listed = l;
              good = set_entry-keeps (room t) s g.good (key_word d) l;
            })

    -- Write stores one record outside kernel storage: only that slot changes, and the capability covers it.
    written : type_of m ≡ number write → minimum write ≤ length d → WritePassed (room t) s d
        → GoodStep σ c (outcome t (change done (put s (write_address d) (write_value d))))
    unfolding number
    written is long row =
        change-step σ g c done s' good sized (record {
          kept = λ p l h. framed-same s s' g.good.sound (short g.good) (λ k in_k d e. kernel-kept k in_k) p l;
          granted = λ p h. absurd (true≢false (sym h ∙ quiet-kind write is refl o p));
          wrote = λ w h. record { at = x; outside = row.outside; write = covered };
          kernel = λ w. kernel-kept;
          others = λ k out. only_x k (same_or_not k x);
        })
      where
        x : ℕ
        x = write_address d

        v : ℕ
        v = write_value d

        s' : Store
        s' = put s x v

        o : Outcome
        o = outcome t (change done s')

        good : Good (room t) s'
        good = write_keeps (room t) s g.good x v row.outside row.fits

        sized : Sized s'
        sized =
            unfold write_address write_value in (
            put-sized s x v (word_at-bound d 32 data-bytes) (word_at-bound d 64 data-bytes) g.sized)

        kernel-kept : (k : ℕ) → in_kernel_storage k ≡ true → get s' k ≡ get s k
        kernel-kept k in_k = get-put-other s x v k (kernel-apart x k row.outside in_k)

        stored : get (store o.table) x ≡ v
        stored = unfold outcome in (rw (written-store t s' g.long good sized) (get-put-same 0 s x v g.good.ascending))

        covered : CoveredWrite (event_on σ c o) x
        covered =
            record {
              which = suc (index_word d);
              asked = record { is_write = is; whole = long; index = refl; address = refl; value = stored };
              first = omega arith;
              last = omega (arith, row.index);
              covered = row.covered;
              permitted = unfold succeeds fields outcome in refl;
            }

        only_x : (k : ℕ) → (k ≡ x) ⊎ (k ≡ x → ⊥) → (get s' k ≡ get s k) ⊎ CoveredWrite (event_on σ c o) k
        only_x k (inl here) = inr (subst (CoveredWrite (event_on σ c o)) (sym here) covered)
        only_x k (inr apart) = inl (get-put-other s x v k apart)

    write_step : type_of m ≡ number write → minimum write ≤ length d → GoodStep σ c (outcome t (write_row (room t) s d then write_effect s d))
    unfolding write_row index_out_of_range not_covering chosen no_room
    write_step is long =
        row_step σ g c _ _ (λ ps. written is long (record {
          index = leb-false _ _ (ps (index_out_of_range s d write ⇒ x33) (search member depth 12));
          covered = passed-not (ps (not_covering s d write (write_address d) ⇒ x33) (search member depth 12));
          outside = ps (in_kernel_storage (write_address d) ⇒ x33) (search member depth 12);
          fits = ltb-false _ _ (ps (no_room (room t) (put s (write_address d) (write_value d)) ⇒ e7) (search member depth 12));
        }))

    -- Delete: what is shown of a `Deletion`.
    deleted : type_of m ≡ number delete → Deletion (room t) s (key_word d)
        → GoodStep σ c (outcome t (change done (after_delete s (key_word d))))
    unfolding number
    deleted is deletion =
        change-step σ g c done (after_delete s (key_word d)) (delete-keeps deletion) (after_delete-sized deletion g.sized)
        (quiet-lawful σ g c _ _ (quiet-kind delete is refl _) (not-write delete is refl) (delete-same deletion) (delete-outside deletion))

    delete-step : type_of m ≡ number delete → GoodStep σ c (outcome t (delete_row s d then delete_effect s d))
    unfolding delete_row
    delete-step is =
        row_step σ g c _ _ (λ ps. deleted is (record {
          good = g.good;
          is_listed = passed-not (ps (not (listed s (key_word d)) ⇒ x6633) (search member depth 12));
          not_entry = eqb-false _ _ (ps (eqb (key_word d) (entry_key s) ⇒ e2) (search member depth 12));
          not_current = eqb-false _ _ (ps (eqb (key_word d) (current s) ⇒ e3) (search member depth 12));
        }))

    -- Register: what is shown of a `Registration`; and each capability requested lies within one of the registrar's.
    added : type_of m ≡ number register → RegisterPassed (room t) s d
        → GoodStep σ c (outcome t (change (registered (tests s (requests d))) (after_register s (key_word d) (address_word d) (requests d))))
    unfolding number
    added is row =
        change-step σ g c _ s' (register-keeps new g.good row.fits)
        (after_register-sized new g.sized (requests-each IsWord d (words-bound _ _ (drop-bytes series_at d data-bytes))))
        (record {
          kept = λ q l h. register-same new q (λ z. true≢false (sym (registers-own q z) ∙ h)) l;
          granted = λ q h kind. subst (λ (x : ℕ). Every (LiesWithinOne s (registrar_of (event_on σ c o)) kind) (held s' x kind)) (only-own q h) (
              rw (registered-held new kind) (requested-within s kind (requests d) row.all_contained));
          wrote = λ w. absurd (not-write register is refl w);
          kernel = λ w. absurd (not-write register is refl w);
          others = λ k out. inl (registered-outside new k out);
        })
      where
        p : ℕ
        p = key_word d

        new : Registration s p (address_word d) (requests d)
        new = row.registration

        s' : Store
        s' = after_register s p (address_word d) (requests d)

        o : Outcome
        o = outcome t (change (registered (tests s (requests d))) s')

        registers-own : (q : ℕ) → q ≡ p → registers (event_on σ c o) q ≡ true
        registers-own q z = unfold registers asks_to_register succeeds fields outcome in (rw (is, z, eq-eqb p p refl))

        only-own : (q : ℕ) → registers (event_on σ c o) q ≡ true → p ≡ q
        only-own q h = unfold registers asks_to_register in (search tests-true)

    register-step : type_of m ≡ number register → leading_bytes register d ≡ false
        → GoodStep σ c (outcome t (register_row (room t) s d code mask then register_effect s d (tests s (requests d))))
    unfolding register_row no_room is_zero leading_bytes key_too_long address_too_long
    register-step is leading =
        row_step σ g c _ _ (λ ps. added is (record {
          registration = record {
            ascending = g.good.ascending;
            body = body_of g.good;
            is_key = record {
              non_zero = non_zero p (ps (is_zero p ⇒ e4) (search member depth 12));
              fits = leb-false _ _ (or_left _ _ leading);
            };
            is_address = record {
              non_zero = non_zero a (ps (is_zero a ⇒ e4) (search member depth 12));
              fits = leb-false _ _ (or_right (key_too_long d) _ leading);
            };
            storable = requests-storable d (ps (too_many (requests d) ⇒ x77) (search member depth 12));
            unlisted = λ l. true≢false (
                sym (listed_here s g.good.sound p l) ∙ ps (listed s p ⇒ e1) (search member depth 12));
          };
          all_contained = passed-not (ps (not (all_of (contained s) (requests d)) ⇒ x33) (search member depth 12));
          fits = ltb-false _ _ (ps (no_room (room t) (after_register s p a (requests d)) ⇒ e7) (search member depth 12));
        }))
      where
        p : ℕ
        p = key_word d

        a : ℕ
        a = address_word d

    -- any type's row, and the rows before it
    kind-step : (kind : Kind) → type_of m ≡ number kind → minimum kind ≤ length d → leading_bytes kind d ≡ false
        → GoodStep σ c (outcome t (do_kind (room t) s d code mask kind))
    unfolding own_row
    kind-step call is long leading = call_step is
    kind-step register is long leading = register-step is leading
    kind-step delete is long leading = delete-step is
    kind-step set_entry is long leading = set_entry-step is
    kind-step write is long leading = write_step is long

    named_step : (n : Named) → named (type_of m) ≡ n → GoodStep σ c (outcome t (do_named (room t) s d code mask n))
    unfolding format_row named_row registers asks_to_register
    named_step null q =
        row_step σ g c _ _ (λ ps. answer-step σ g c done (λ p. rw (ne_eqb (type_of m) (number register) (no_kind register))) (no_kind write))
      where
        no_kind : (kind : Kind) → type_of m ≢ number kind
        no_kind kind z =
            let r = named-number kind in
            let n = ap named z in
            true≢false (cc)
    named_step unknown q = row_step σ g c _ _ (λ ps. absurd (true≢false (ps (true ⇒ aa) (search member depth 12))))
    named_step (of_kind kind) q =
        rw (judge-append (format_row d kind)) (
        row_step σ g c _ _ (λ ps. kind-step kind (named-kind (type_of m) kind q)
        (ltb-false _ _ (ps (ltb (length d) (minimum kind) ⇒ e0) (search member depth 12)))
        (ps (leading_bytes kind d ⇒ e6) (search member depth 12))))

    system-step : GoodStep σ c (system_call t m code mask)
    unfolding system_call
    system-step = rw (judge-append (system_row t m mask)) (row_step σ g c _ _ (λ ps. named_step (named (type_of m)) refl))

  -- each call that continues a sequence
  pub defined-step : (c : AnyCall) → LentBytes c → started_anew (event_on σ c (defined_on t c)) ≡ false → GoodStep σ c (defined_on t c)
  unfolding defined_on started_anew starts
  defined-step (setting_up k a ka) lent refused = set_up-step k a ka refused
  defined-step (turning k) lent continues = turn_step k
  defined-step (looking k) lent continues = look-step k
  defined-step (calling m code mask) lent continues = system-step m code mask lent.0
