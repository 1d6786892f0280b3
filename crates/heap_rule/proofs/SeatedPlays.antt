-- What each step owes the rule, at a seat that is known to have such a view.
use Rattle.std.proofs.Common.{◌≡◌, ℕ, ◌+◌, ◌*◌, ◌<◌, ◌∷◌, ◌++◌, [], length, sym, subst, true, false}
use mathlib.Core.Option.{none}
use Rattle.atomic_table.specs.Table.{step, Allows}
use Rattle.mont_base.specs.declared.constants.TheConstants.{FIELDS}
use Rattle.std.specs.Prelude.{Some}
use Rattle.mont_base.specs.SlotLists.{Roomy}
use Rattle.mont_base.specs.declared.operation.Op.{Op}
use Rattle.mont_base.specs.declared.operation.Reply.{Reply}
use Rattle.mont_base.specs.Layout.{units_of, total_of, word_of}
use Rattle.core_steps.specs.declared.parts.AdvPart.TheVariants.{Rest}
use Rattle.core_steps.specs.Stages.{is_idle, is_within, epoch_of, passed_of}
use Rattle.core_steps.specs.Announcing.{can_look, can_tell, can_confirm, can_withdraw, can_freeze}
use Rattle.core_steps.specs.Storing.{IsFreeSlot, CanStore}
use Rattle.core_steps.specs.CallAnswers.{CanLeave, CanRead}
use Rattle.core_steps.specs.Closing.{can_load_durable, CanClose, CanPersistClose}
use Rattle.core_steps.specs.Advancing.{can_check, unit_at_hand, is_clocked}
use Rattle.core_steps.specs.Flushing.{can_load_word, can_persist_word, is_flushed}
use Rattle.heap_rule.specs.declared.rule.Opening.{Opening}
use Rattle.heap_rule.specs.declared.views.UnitKnown.{UnitKnown}
use Rattle.heap_rule.specs.declared.views.AdvKnown.{AdvKnown}
use Rattle.heap_rule.specs.declared.views.CallerKnown.{CallerKnown}
use Rattle.heap_rule.specs.declared.views.NoteKnown.{NoteKnown}
use Rattle.heap_rule.specs.declared.views.View.{View}
use Rattle.heap_rule.specs.Views.{Seated, listing, list_place, listed_in, unit_view, advancer_view, caller_view, pair_view, news_view, home_turn, are_clean, joined, slots_written, slot_at_hand, field_at_hand, word_in_hand, odd_announcement}
use Rattle.heap_rule.specs.TableWords.{durable_place, announcement_place}
use Rattle.heap_rule.specs.Rule.{ShowsCore}
use Rattle.heap_rule.specs.Plays.{gave_list, gave_empty, checked, closed, confirmed, frozen, heard, heard_news, left, loaded_durable, loaded_word, looked, persisted, persisted_clock, persisted_word, read, saw_durable, set_clock, told, took_full, took_list, withdrew, wrote}
use Rattle.heap_rule.proofs.UnitPlays.{looks, tells, confirms, withdraws, loads_durable}
use Rattle.heap_rule.proofs.StorePlays.{stores, closes_label, persists_close}
use Rattle.heap_rule.proofs.FlushPlays.{checks, loads_word, persists_word, sets_clock, persists_clock}
use Rattle.heap_rule.proofs.AnswerPlays.{freezes, sees_durable, leaves, reads}
use Rattle.heap_rule.proofs.HearPlays.{hears, hears_news}
use Rattle.heap_rule.proofs.ListPlays.{gives_list, gives_empty, takes_list, takes_full}

pub looks_as : (o : Opening) (slots seat i : ℕ) (m : Seated) (h : UnitKnown) → m.0 ≡ unit_view h → i ≡ 0 → can_look h.part ≡ true
    → Allows (ShowsCore o) slots seat m i (λ n. n) (looked (step slots i 0 0 none) m)
looks_as o slots seat i m h is at may =
    subst (λ (z : ℕ × View). Allows (ShowsCore o) slots seat (z.1, m.1) z.0 (λ n. n) (looked (step slots z.0 0 0 none) (z.1, m.1)))
    (λ j. (sym at j, sym is j)) (looks o slots seat h m.1 may)

pub tells_as : (o : Opening) (slots seat i x : ℕ) (m : Seated) (h : UnitKnown) (e : ℕ) → m.0 ≡ unit_view h
    → i ≡ announcement_place o.layout h.unit → x ≡ 2 * e → can_tell h.part e ≡ true → (is_idle h.part.stage ≡ true
    → are_clean (units_of o.layout) h.clean ≡ true) → h.turn ≡ home_turn
    → Allows (ShowsCore o) slots seat m i (λ _. x) (λ _ n. told (step slots i x 0 none) m x n)
tells_as o slots seat i x m h e is at new may idle home =
    subst (λ (z : ℕ × ℕ × View). Allows (ShowsCore o) slots seat (z.2, m.1) z.0 (λ _. z.1) (λ _ n. told (step slots z.0 z.1 0 none)
    (z.2, m.1) z.1 n))
    (λ j. (sym at j, sym new j, sym is j)) (tells o slots seat h m.1 e may idle home)

pub confirms_as : (o : Opening) (slots seat i : ℕ) (m : Seated) (h : UnitKnown) → m.0 ≡ unit_view h → i ≡ 0
    → can_confirm h.part ≡ true → h.turn ≡ home_turn
    → Allows (ShowsCore o) slots seat m i (λ n. n) (confirmed (step slots i 0 0 none) m)
confirms_as o slots seat i m h is at may home =
    subst (λ (z : ℕ × View). Allows (ShowsCore o) slots seat (z.1, m.1) z.0 (λ n. n) (confirmed (step slots z.0 0 0 none) (z.1, m.1)))
    (λ j. (sym at j, sym is j)) (confirms o slots seat h m.1 may home)

pub withdraws_as : (o : Opening) (slots seat i x : ℕ) (m : Seated) (h : UnitKnown) → m.0 ≡ unit_view h
    → i ≡ announcement_place o.layout h.unit → x ≡ 0 → can_withdraw h.part ≡ true → h.turn ≡ home_turn
    → Allows (ShowsCore o) slots seat m i (λ _. x) (λ _ n. withdrew (step slots i x 0 none) m x n)
withdraws_as o slots seat i x m h is at new may home =
    subst (λ (z : ℕ × ℕ × View). Allows (ShowsCore o) slots seat (z.2, m.1) z.0 (λ _. z.1) (λ _ n. withdrew
    (step slots z.0 z.1 0 none) (z.2, m.1) z.1 n))
    (λ j. (sym at j, sym new j, sym is j)) (withdraws o slots seat h m.1 may home)

pub loads_durable_as : (o w : Opening) (slots seat i : ℕ) (m : Seated) (h : UnitKnown) → w ≡ o → m.0 ≡ unit_view h
    → i ≡ durable_place o.layout 0 → can_load_durable h.part ≡ true
    → Allows (ShowsCore o) slots seat m i (λ n. n) (loaded_durable w (step slots i 0 0 none) m)
loads_durable_as o w slots seat i m h same is at may =
    subst (λ (z : ℕ × View × Opening). Allows (ShowsCore o) slots seat (z.1, m.1) z.0 (λ n. n) (loaded_durable z.2 (step slots z.0 0 0 none)
    (z.1, m.1)))
    (λ j. (sym at j, sym is j, sym same j)) (loads_durable o slots seat h m.1 may)

pub stores_as : (o : Opening) (slots seat i x : ℕ) (m : Seated) (h : UnitKnown) (slot field value : ℕ) → m.0 ≡ unit_view h
    → i ≡ word_of slot field → x ≡ value → CanStore (IsFreeSlot o.layout h.unit h.part slot) h.unit h.part slot field value
    → slot < total_of o.layout
    → Allows (ShowsCore o) slots seat m i (λ _. x) (λ _ n. wrote (step slots i x 0 none) m x n)
stores_as o slots seat i x m h slot field value is at new may inside =
    subst (λ (z : ℕ × ℕ × View). Allows (ShowsCore o) slots seat (z.2, m.1) z.0 (λ _. z.1) (λ _ n. wrote (step slots z.0 z.1 0 none)
    (z.2, m.1) z.1 n))
    (λ j. (sym at j, sym new j, sym is j)) (stores o slots seat h m.1 slot field value may inside)

pub closes_label_as : (o : Opening) (slots seat i x : ℕ) (m : Seated) (h : UnitKnown) (slot : ℕ) → m.0 ≡ unit_view h
    → i ≡ word_of slot 0 → x ≡ 0 → CanClose h.part slot → slot < total_of o.layout → h.turn ≡ home_turn
    → Allows (ShowsCore o) slots seat m i (λ _. x) (λ _ n. closed (step slots i x 0 none) m x n)
closes_label_as o slots seat i x m h slot is at new may inside home =
    subst (λ (z : ℕ × ℕ × View). Allows (ShowsCore o) slots seat (z.2, m.1) z.0 (λ _. z.1) (λ _ n. closed (step slots z.0 z.1 0 none)
    (z.2, m.1) z.1 n))
    (λ j. (sym at j, sym new j, sym is j)) (closes_label o slots seat h m.1 slot may inside home)

pub persists_close_as : (o w : Opening) (slots seat i x : ℕ) (m : Seated) (h : UnitKnown) (slot : ℕ) → w ≡ o → m.0 ≡ unit_view h
    → i ≡ durable_place o.layout (word_of slot 0) → x ≡ 0 → CanPersistClose h.part slot → slot < total_of o.layout → h.turn ≡ home_turn
    → Allows (ShowsCore o) slots seat m i (λ _. x) (λ _ n. persisted w (step slots i x 0 none) m x n)
persists_close_as o w slots seat i x m h slot same is at new may inside home =
    subst (λ (z : ℕ × ℕ × View × Opening). Allows (ShowsCore o) slots seat (z.2, m.1) z.0 (λ _. z.1) (λ _ n. persisted z.3
    (step slots z.0 z.1 0 none) (z.2, m.1) z.1 n))
    (λ j. (sym at j, sym new j, sym is j, sym same j)) (persists_close o slots seat h m.1 slot may inside home)

pub checks_as : (o w : Opening) (slots seat i : ℕ) (m : Seated) (a : AdvKnown) → w ≡ o → m.0 ≡ advancer_view a
    → i ≡ announcement_place o.layout (unit_at_hand a.part) → can_check a.clock a.part ≡ true → (a.part ≡ Rest
    → are_clean (units_of o.layout) a.clean ≡ true) → unit_at_hand a.part < a.units
    → Allows (ShowsCore o) slots seat m i (λ n. n) (checked w (step slots i 0 0 none) m)
checks_as o w slots seat i m a same is at may rest inside =
    subst (λ (z : ℕ × View × Opening). Allows (ShowsCore o) slots seat (z.1, m.1) z.0 (λ n. n)
    (checked z.2 (step slots z.0 0 0 none) (z.1, m.1)))
    (λ j. (sym at j, sym is j, sym same j)) (checks o slots seat a m.1 may rest inside)

pub loads_word_as : (o : Opening) (slots seat i : ℕ) (m : Seated) (a : AdvKnown) → m.0 ≡ advancer_view a
    → i ≡ word_of (slot_at_hand a) (field_at_hand a.part) → can_load_word (length (joined a.lists)) a.part ≡ true
    → slot_at_hand a < total_of o.layout → field_at_hand a.part < FIELDS
    → Allows (ShowsCore o) slots seat m i (λ n. n) (loaded_word (step slots i 0 0 none) m)
loads_word_as o slots seat i m a is at may inside low =
    subst (λ (z : ℕ × View). Allows (ShowsCore o) slots seat (z.1, m.1) z.0 (λ n. n) (loaded_word (step slots z.0 0 0 none) (z.1, m.1)))
    (λ j. (sym at j, sym is j)) (loads_word o slots seat a m.1 may inside low)

pub persists_word_as : (o : Opening) (slots seat i x : ℕ) (m : Seated) (a : AdvKnown) → m.0 ≡ advancer_view a
    → i ≡ durable_place o.layout (word_of (slot_at_hand a) (field_at_hand a.part)) → x ≡ word_in_hand a.part
    → can_persist_word a.part ≡ true → slot_at_hand a < total_of o.layout → field_at_hand a.part < FIELDS
    → Allows (ShowsCore o) slots seat m i (λ _. x) (λ _ n. persisted_word (step slots i x 0 none) m x n)
persists_word_as o slots seat i x m a is at new may inside low =
    subst (λ (z : ℕ × ℕ × View). Allows (ShowsCore o) slots seat (z.2, m.1) z.0 (λ _. z.1) (λ _ n. persisted_word
    (step slots z.0 z.1 0 none) (z.2, m.1) z.1 n))
    (λ j. (sym at j, sym new j, sym is j)) (persists_word o slots seat a m.1 may inside low)

pub sets_clock_as : (o : Opening) (slots seat i x : ℕ) (m : Seated) (a : AdvKnown) → m.0 ≡ advancer_view a → i ≡ 0 → x ≡ a.clock + 1
    → is_flushed (length (joined a.lists)) a.part ≡ true → a.turn ≡ record { emptied = a.units; out = false }
    → Allows (ShowsCore o) slots seat m i (λ _. x) (λ _ n. set_clock (step slots i x 0 none) m x n)
sets_clock_as o slots seat i x m a is at new may empty =
    subst (λ (z : ℕ × ℕ × View). Allows (ShowsCore o) slots seat (z.2, m.1) z.0 (λ _. z.1) (λ _ n. set_clock
    (step slots z.0 z.1 0 none) (z.2, m.1) z.1 n))
    (λ j. (sym at j, sym new j, sym is j)) (sets_clock o slots seat a m.1 may empty)

pub persists_clock_as : (o w : Opening) (slots seat i x : ℕ) (m : Seated) (a : AdvKnown) → w ≡ o → m.0 ≡ advancer_view a
    → i ≡ durable_place o.layout 0 → x ≡ a.clock → is_clocked a.part ≡ true
    → Allows (ShowsCore o) slots seat m i (λ _. x) (λ _ n. persisted_clock w (step slots i x 0 none) m x n)
persists_clock_as o w slots seat i x m a same is at new may =
    subst (λ (z : ℕ × ℕ × View × Opening). Allows (ShowsCore o) slots seat (z.2, m.1) z.0 (λ _. z.1) (λ _ n. persisted_clock z.3
    (step slots z.0 z.1 0 none) (z.2, m.1) z.1 n))
    (λ j. (sym at j, sym new j, sym is j, sym same j)) (persists_clock o slots seat a m.1 may)

pub freezes_as : (o : Opening) (slots seat i x : ℕ) (m : Seated) (h : UnitKnown) (q : CallerKnown) (value : ℕ) → m.0 ≡ pair_view h q
    → i ≡ announcement_place o.layout h.unit → x ≡ value → can_freeze h.part ≡ true → are_clean (units_of o.layout) h.clean ≡ true
    → value ≡ odd_announcement h.part.stage
    → Allows (ShowsCore o) slots seat m i (λ _. x) (λ _ n. frozen (step slots i x 0 none) m x n)
freezes_as o slots seat i x m h q value is at new may clean odd =
    subst (λ (z : ℕ × ℕ × View). Allows (ShowsCore o) slots seat (z.2, m.1) z.0 (λ _. z.1) (λ _ n. frozen (step slots z.0 z.1 0 none)
    (z.2, m.1) z.1 n))
    (λ j. (sym at j, sym new j, sym is j)) (freezes o slots seat h q m.1 value may clean odd)

pub sees_durable_as : (o : Opening) (slots seat i : ℕ) (m : Seated) (q : CallerKnown) → m.0 ≡ caller_view q → i ≡ durable_place o.layout 0
    → Allows (ShowsCore o) slots seat m i (λ n. n) (saw_durable (step slots i 0 0 none) m)
sees_durable_as o slots seat i m q is at =
    subst (λ (z : ℕ × View). Allows (ShowsCore o) slots seat (z.1, m.1) z.0 (λ n. n) (saw_durable (step slots z.0 0 0 none) (z.1, m.1)))
    (λ j. (sym at j, sym is j)) (sees_durable o slots seat q m.1)

pub leaves_as : (o w : Opening) (slots seat i x : ℕ) (m : Seated) (h : UnitKnown) (q : CallerKnown) (op : Op) (reply : Reply)
    → w ≡ o → m.0 ≡ pair_view h q → i ≡ announcement_place o.layout h.unit → x ≡ 0
    → CanLeave o.layout h.unit h.part q.part op reply (epoch_of h.part.stage)
    → h.turn ≡ record { out = false; pushed = slots_written h.part }
    → Allows (ShowsCore o) slots seat m i (λ _. x) (λ _ n. left w op reply (step slots i x 0 none) m x n)
leaves_as o w slots seat i x m h q op reply same is at new may given =
    subst (λ (z : ℕ × ℕ × View × Opening). Allows (ShowsCore o) slots seat (z.2, m.1) z.0 (λ _. z.1) (λ _ n. left z.3 op reply
    (step slots z.0 z.1 0 none) (z.2, m.1) z.1 n))
    (λ j. (sym at j, sym new j, sym is j, sym same j)) (leaves o slots seat h q m.1 op reply may given)

pub reads_as : (o w : Opening) (slots seat i : ℕ) (m : Seated) (h : UnitKnown) (q : CallerKnown) (op : Op) (reply : Reply)
    → w ≡ o → m.0 ≡ pair_view h q → i ≡ 0 → CanRead o.layout h.unit h.part q.part op reply → are_clean (units_of o.layout) h.clean ≡ true
    → Allows (ShowsCore o) slots seat m i (λ n. n) (read w op reply (step slots i 0 0 none) m)
reads_as o w slots seat i m h q op reply same is at may clean =
    subst (λ (z : ℕ × View × Opening). Allows (ShowsCore o) slots seat (z.1, m.1) z.0 (λ n. n) (read z.2 op reply
    (step slots z.0 0 0 none) (z.1, m.1)))
    (λ j. (sym at j, sym is j, sym same j)) (reads o slots seat h q m.1 op reply may clean)

pub hears_as : (o w : Opening) (slots seat i : ℕ) (m : Seated) (h : UnitKnown) (q : CallerKnown) → w ≡ o → m.0 ≡ pair_view h q → i ≡ 0
    → Allows (ShowsCore o) slots seat m i (λ n. n) (heard w (step slots i 0 0 none) m)
hears_as o w slots seat i m h q same is at =
    subst (λ (z : ℕ × View × Opening). Allows (ShowsCore o) slots seat (z.1, m.1) z.0 (λ n. n) (heard z.2 (step slots z.0 0 0 none)
    (z.1, m.1)))
    (λ j. (sym at j, sym is j, sym same j)) (hears o slots seat h q m.1)

pub hears_news_as : (o : Opening) (slots seat i : ℕ) (m : Seated) (q : CallerKnown) (n : NoteKnown) → m.0 ≡ news_view q n → i ≡ 0
    → Allows (ShowsCore o) slots seat m i (λ n. n) (heard_news (step slots i 0 0 none) m)
hears_news_as o slots seat i m q n is at =
    subst (λ (z : ℕ × View). Allows (ShowsCore o) slots seat (z.1, m.1) z.0 (λ n. n) (heard_news (step slots z.0 0 0 none) (z.1, m.1)))
    (λ j. (sym at j, sym is j)) (hears_news o slots seat q n m.1)

pub takes_list_as : (o : Opening) (slots seat i : ℕ) (m : Seated) (h : UnitKnown) → m.0 ≡ unit_view h → i ≡ 0
    → is_within h.part.stage ≡ true → h.turn.out ≡ false
    → Allows (ShowsCore o) slots seat m i (λ n. n) (took_list (step slots i 0 0 none) m)
takes_list_as o slots seat i m h is at within home =
    subst (λ (z : ℕ × View). Allows (ShowsCore o) slots seat (z.1, m.1) z.0 (λ n. n) (took_list (step slots z.0 0 0 none) (z.1, m.1)))
    (λ j. (sym at j, sym is j)) (takes_list o slots seat h m.1 within home)

pub takes_full_as : (o : Opening) (slots seat i : ℕ) (m : Seated) (a : AdvKnown) → m.0 ≡ advancer_view a → i ≡ 0
    → a.turn.emptied < a.units → a.turn.emptied < passed_of a.units a.part → a.turn.out ≡ false
    → Allows (ShowsCore o) slots seat m i (λ n. n) (took_full (step slots i 0 0 none) m)
takes_full_as o slots seat i m a is at inside may home =
    subst (λ (z : ℕ × View). Allows (ShowsCore o) slots seat (z.1, m.1) z.0 (λ n. n) (took_full (step slots z.0 0 0 none) (z.1, m.1)))
    (λ j. (sym at j, sym is j)) (takes_full o slots seat a m.1 inside may home)

pub gives_list_as : (o : Opening) (slots seat i : ℕ) (m : Seated) (h : UnitKnown) (l : Roomy)
    → m ≡ (unit_view h, (list_place h.unit (epoch_of h.part.stage), Some l) ∷ []) → i ≡ 0 → is_within h.part.stage ≡ true
    → l ≡ record { slots = listed_in h ++ slots_written h.part; room = h.room }
    → Allows (ShowsCore o) slots seat m i (λ n. n) (gave_list (step slots i 0 0 none) m)
gives_list_as o slots seat i m h l is at within list =
    subst (λ (z : ℕ × Seated). Allows (ShowsCore o) slots seat z.1 z.0 (λ n. n) (gave_list (step slots z.0 0 0 none) z.1))
    (λ j. (sym at j, sym is j)) (gives_list o slots seat h [] l within list)

pub gives_empty_as : (o : Opening) (slots seat i : ℕ) (m : Seated) (a : AdvKnown)
    → m ≡ (advancer_view a, (list_place a.turn.emptied (a.clock + 1), listing a.room []) ∷ []) → i ≡ 0 → a.turn.emptied < a.units
    → a.turn.out ≡ true → Allows (ShowsCore o) slots seat m i (λ n. n) (gave_empty (step slots i 0 0 none) m)
gives_empty_as o slots seat i m a is at inside away =
    subst (λ (z : ℕ × Seated). Allows (ShowsCore o) slots seat z.1 z.0 (λ n. n) (gave_empty (step slots z.0 0 0 none) z.1))
    (λ j. (sym at j, sym is j)) (gives_empty o slots seat a [] inside away)
