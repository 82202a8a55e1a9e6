-- The item, as the code finds it.
use Rattle.std.proofs.Common.{◌≡◌, ℕ, ◌+◌, ◌-◌, ◌<◌, ◌≤◌, List, [], length, get_or, sym, ap, subst, ◌∙◌, arith, Option, Some, None, All}
use Rattle.std.specs.Option.{option_map, option_map_or}
use Rattle.std.proofs.lemmas.List.{get_or_read}
use Rattle.std.proofs.lemmas.List.Elements.{All-get_or}
use Rattle.wire_core.specs.Answers.{first_below}
use Rattle.wire_core.proofs.AnswerLemmas.{first_below-none, first_below-some}
use Rattle.transcript_form.specs.declared.accusation.Accusation.{Accusation}
use Rattle.transcript_form.specs.Accusation.{accusation_spelling}
use Rattle.bulk_descriptor.specs.declared.slot_state.SlotState.{SlotState}
use Rattle.bulk_descriptor.specs.declared.slot_state.SlotState.TheVariants.{Empty}
use Rattle.accusation.specs.Item.{first_in, accusation_by, item_accusation, item_row, empty_item, NamesWithin}
use Rattle.accusation.proofs.AccusationLemmas.{first_in_cases}

-- what the code finds in a slot
pub found_in : (own : List ℕ) (opened : List (Option (List ℕ))) (states held : List SlotState) (k : ℕ) (o : Option (List ℕ)) (s : SlotState)
    (r : Option ℕ) → held ≡ states → k < length opened → k < length states
    → o ≡ get_or opened k o → s ≡ get_or held k s → r ≡ first_in own o s → r ≡ first_in own (get_or opened k None) (get_or states k Empty)
found_in own opened states held k o s r same h h' is-o is-s told =
    told
    ∙ ap (λ (o : Option (List ℕ)). first_in own o s) (get_or_read opened k o h is-o None)
    ∙ ap (first_in own (get_or opened k None)) (get_or_read states k s h' (is-s ∙ ap (λ (l : List SlotState). get_or l k s) same) Empty)

pub nobody_in : (own : List ℕ) (opened : List (Option (List ℕ))) (states : List SlotState) (seeds : List (List ℕ)) (k : ℕ) (r : Option ℕ)
    → r ≡ first_in own (get_or opened k None) (get_or states k Empty) → r ≡ None
    → accusation_by own opened states seeds k ≡ None
nobody_in own opened states seeds k r told none =
    ap (option_map (λ (first : ℕ). let a : Accusation = record { slot = k + 1; member = first; seed = get_or seeds (first - 1) [] } in a))
    (sym told ∙ none)

pub item_found : (own : List ℕ) (opened : List (Option (List ℕ))) (states : List SlotState) (seeds : List (List ℕ)) (k first : ℕ)
    (seed item : List ℕ) (r : Option ℕ) → k < length states
    → ((j : ℕ) → j < k → accusation_by own opened states seeds j ≡ None) → r ≡ first_in own (get_or opened k None) (get_or states k Empty)
    → r ≡ Some first → seed ≡ get_or seeds (first - 1) []
    → item ≡ accusation_spelling (record { slot = k + 1; member = first; seed = seed }) → item ≡ item_row own opened states seeds
unfolding item_row item_accusation
item_found own opened states seeds k first seed item r h none told some is-seed is =
    let a : Accusation = record { slot = k + 1; member = first; seed = get_or seeds (first - 1) [] } in
    let there : accusation_by own opened states seeds k ≡ Some a = ap
    (option_map (λ (first : ℕ). let a : Accusation = record { slot = k + 1; member = first; seed = get_or seeds (first - 1) [] } in a))
    (sym told ∙ some) in
    let found : first_below (length states) (accusation_by own opened states seeds) ≡ Some a = first_below-some
    (accusation_by own opened states seeds) (length states) k a h none there in
    is ∙ ap (λ (seed : List ℕ). accusation_spelling (record { slot = k + 1; member = first; seed = seed })) is-seed
    ∙ sym (ap (λ (o : Option Accusation). option_map_or accusation_spelling o empty_item) found)

pub item_none : (own : List ℕ) (opened : List (Option (List ℕ))) (states : List SlotState) (seeds : List (List ℕ)) (n : ℕ)
    → length states ≤ n → ((k : ℕ) → k < n → accusation_by own opened states seeds k ≡ None)
    → empty_item ≡ item_row own opened states seeds
unfolding item_row item_accusation
item_none own opened states seeds n h none =
    sym (ap (λ (o : Option Accusation). option_map_or accusation_spelling o empty_item)
    (first_below-none (accusation_by own opened states seeds) (length states) (λ k below. none k (omega arith))))

-- the member that a slot names is one
pub named : (own : List ℕ) (opened : List (Option (List ℕ))) (states : List SlotState) (n k first : ℕ) (r : Option ℕ) → k < length states
    → All (NamesWithin n) states → r ≡ first_in own (get_or opened k None) (get_or states k Empty)
    → r ≡ Some first → (1 ≤ first) × (first ≤ n)
named own opened states n k first r h names told some =
    let slot = first_in_cases own (get_or opened k None) (get_or states k Empty) first (sym told ∙ some) in
    subst (NamesWithin n) slot.1 (All-get_or (NamesWithin n) states k Empty h names)
