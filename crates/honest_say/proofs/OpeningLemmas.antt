-- Lists and pads that were said, and what a list opens to.
use Rattle.std.proofs.Common.{◌≡◌, ℕ, zero, suc, ◌+◌, ◌<◌, ◌≤◌, List, [], ◌∷◌, length, map, All, Option, Some, None, inl, inr, refl, ap, sym, ◌∙◌, subst, arith}
use Rattle.std.specs.Prelude.{IfSome, IsSome, option_and_then, replicate}
use Rattle.std.specs.List.{AllByRecursion, enumerate_from}
use Rattle.std.proofs.lemmas.List.{length-map}
use Rattle.std.proofs.lemmas.List.FromFn.{length-enumerate_from, length-map-range_with_len}
use Rattle.phase_message.specs.declared.content.Body.{Body}
use Rattle.phase_message.specs.Shape.{Shape}
use Rattle.phase_message.proofs.Table.{keys_is, pad_is}
use Rattle.bulk_descriptor.specs.declared.slot_state.SlotState.{SlotState}
use Rattle.bulk_descriptor.specs.Descriptor.{Description, descriptor_read}
use Rattle.bulk_descriptor.specs.SlotState.{AreSlots, pads_for, slot_state, slot_states}
use Rattle.accusation.specs.Item.{NamesWithin}
use Rattle.accusation.proofs.AccusationLemmas.{states_name_members}
use Rattle.shuffle_core.specs.Shuffle.{opened_item, opened_list}
use Rattle.stage_log.specs.Log.{before}
use Rattle.stage_log.specs.Table.{IsLog, Log}
use Rattle.go_nogo.specs.Stands.{StandAll, StandAt}
use Rattle.shuffle_blame.specs.Asked.{past_of}
use Rattle.shuffle_blame.specs.Replay.{list_of}
use Rattle.round_spec.specs.Slots.{descriptors_opened, entries_opened, final_stage, items_opened, list_said, pad_stage, pads_in, pads_sent, said_in, seeds_revealed, slots_of_past, submit_stage}
use Rattle.honest_say.proofs.BodyForms.{AreFiveKeys, ArePads, IsTurnBody, keys-form, pads-form, turn-form}
use Rattle.honest_say.proofs.OwnRows.{list-said}
use Rattle.honest_say.proofs.PastLemmas.{said-stands}
use Rattle.honest_say.proofs.StageLemmas.{keys-slot, pad-slot, turn-kind, turn-slot}

pub all-of : {A : Type 0} (P : A → Type 0) (xs : List A) → AllByRecursion P xs → All P xs
all-of {A} P [] each k d below = absurd (omega arith)
all-of {A} P (x ∷ xs) each zero d below = each.0
all-of {A} P (x ∷ xs) each (suc k) d below = all-of P xs each.1 k d (omega arith)

-- ---- keys

pub keys-stand : (log : Log) (stage sender : ℕ) → IsLog log → IsSome (before log stage) → 1 ≤ stage → StandAt log 0 → 1 ≤ sender
    → sender ≤ log.shape.members
    → AreFiveKeys (said_in log.shape (past_of log stage) 0 sender)
keys-stand log stage sender is complete later stand least most =
    let said = said-stands log stage (record { stage = 0; sender = sender }) is complete (keys-slot log.shape sender least most)
    (omega arith) stand in
    subst AreFiveKeys (sym said.said) (keys-form log.shape 0 said.content.body (keys_is log.shape 0 refl) said.body)

-- ---- pads

pub pads-stand : (log : Log) (stage sender : ℕ) → IsLog log → IsSome (before log stage) → pad_stage log.shape < stage → StandAll log
    → 1 ≤ sender → sender ≤ log.shape.members
    → ArePads log.shape (said_in log.shape (past_of log stage) (pad_stage log.shape) sender)
pads-stand log stage sender is complete later stand least most =
    let said = said-stands log stage (record { stage = pad_stage log.shape; sender = sender }) is complete
    (pad-slot log.shape sender least most) later (stand (pad_stage log.shape)) in
    subst (ArePads log.shape) (sym said.said) (pads-form log.shape (pad_stage log.shape) said.content.body
    (pad_is log.shape (pad_stage log.shape) refl) said.body)

-- ---- lists

turn-stands : (log : Log) (stage shuffle turn : ℕ) → IsLog log → IsSome (before log stage) → 1 ≤ shuffle → shuffle ≤ 2 → 1 ≤ turn
    → turn ≤ log.shape.members
    → submit_stage log.shape shuffle + turn < stage → StandAll log
    → IsTurnBody log.shape (said_in log.shape (past_of log stage) (submit_stage log.shape shuffle + turn) turn)
turn-stands log stage shuffle turn is complete first last least most later stand =
    let at : ℕ = submit_stage log.shape shuffle + turn in
    let said = said-stands log stage (record { stage = at; sender = turn }) is complete
    (turn-slot log.shape shuffle turn first last least most) later (stand at) in
    subst (IsTurnBody log.shape) (sym said.said) (turn-form log.shape at shuffle turn said.content.body
    (turn-kind log.shape shuffle turn first last least most) said.body)

list-count : (shape : Shape) (body : Body) (entries : List (List ℕ)) → IsTurnBody shape body → list_of body ≡ Some entries
    → length entries ≡ shape.members
list-count shape body entries (inl aborts) e = absurd (let none = sym (ap list_of aborts) ∙ e in cc)
list-count shape body entries (inr said) e =
    let same : Some said.0 ≡ Some entries = sym (ap list_of said.1) ∙ e in
    let list : said.0 ≡ entries = cc in
    ap (λ (t : List (List ℕ)). length t) (sym list) ∙ said.2

-- the last list has an entry for each member
pub last-count : (log : Log) (stage shuffle : ℕ) (entries : List (List ℕ)) → IsLog log → IsSome (before log stage) → 1 ≤ shuffle
    → shuffle ≤ 2
    → final_stage log.shape shuffle < stage → StandAll log → list_said log.shape (past_of log stage) shuffle log.shape.members ≡ Some
    entries → length entries ≡ log.shape.members
last-count log stage shuffle entries is complete first last later stand e =
    let n : ℕ = log.shape.members in
    let least : 1 ≤ n = omega (arith, is.shape.least) in
    let stands = turn-stands log stage shuffle n is complete first last least (omega arith) (omega arith) stand in
    list-count log.shape (said_in log.shape (past_of log stage) (submit_stage log.shape shuffle + n) n) entries stands
    (list-said log.shape (past_of log stage) shuffle n least ∙ e)

-- ---- what it opens to

pub opens-none : (shape : Shape) (past : List (List ℕ)) (shuffle : ℕ) → list_said shape past shuffle shape.members ≡ None
    → replicate shape.members None ≡ items_opened shape past shuffle
unfolding items_opened
opens-none shape past shuffle e = ap (entries_opened shape (seeds_revealed shape past shuffle)) (sym e)

pub opens-some : (shape : Shape) (past seeds entries : List (List ℕ)) (shuffle : ℕ)
    → list_said shape past shuffle shape.members ≡ Some entries → seeds ≡ seeds_revealed shape past shuffle
    → opened_list seeds entries ≡ items_opened shape past shuffle
unfolding items_opened
opens-some shape past seeds entries shuffle e same =
    ap (λ (s : List (List ℕ)). opened_list s entries) same ∙ ap (entries_opened shape (seeds_revealed shape past shuffle)) (sym e)

pub opened-count : (seeds entries : List (List ℕ)) → length (opened_list seeds entries) ≡ length entries
opened-count seeds entries = length-map entries (opened_item seeds)

-- ---- slots

pub pads-count : (shape : Shape) (past : List (List ℕ)) → length (pads_sent shape past) ≡ shape.members
unfolding pads_sent
pads-count shape past = length-map-range_with_len (λ member. pads_in (said_in shape past (pad_stage shape) member)) 1 shape.members

pub descriptors-are : (shape : Shape) (past : List (List ℕ)) (n : ℕ) (found : List (Option Description)) (opened : List (Option (List ℕ)))
    → n ≡ shape.members
    → found ≡ map (option_and_then (descriptor_read n)) opened → opened ≡ items_opened shape past 1 → found ≡ descriptors_opened shape past
unfolding descriptors_opened
descriptors-are shape past n found opened members is same =
    is ∙ ap (λ (k : ℕ). map (option_and_then (descriptor_read k)) opened) members
    ∙ ap (λ (o : List (Option (List ℕ))). map (option_and_then (descriptor_read shape.members)) o) same

pub states-are : (shape : Shape) (past : List (List ℕ)) (found : List (Option Description)) (table : List (List (List ℕ)))
    (states : List SlotState)
    → found ≡ descriptors_opened shape past → table ≡ pads_sent shape past → states ≡ slot_states found table
    → states ≡ slots_of_past shape past
unfolding slots_of_past
states-are shape past found table states are_found are_sent is =
    is ∙ ap (λ (d : List (Option Description)). slot_states d table) are_found ∙ ap (slot_states (descriptors_opened shape past)) are_sent

pub are-slots : (n members : ℕ) (found : List (Option Description)) (opened : List (Option (List ℕ))) (table : List (List (List ℕ)))
    → n ≡ members
    → found ≡ map (option_and_then (descriptor_read n)) opened → length opened ≡ members → length table ≡ members
    → All (λ row. length row ≡ members) table
    → All (λ slot. IfSome slot (λ d. length d.pad_hashes ≡ n)) found → AreSlots found table
are-slots n members found opened table same is opened_count table_count rows hashes =
    let count : length found ≡ members = ap (λ (t : List (Option Description)). length t) is
    ∙ length-map opened (option_and_then (descriptor_read n)) ∙ opened_count in
    record {
      members = table_count ∙ sym count;
      pads = λ k d lt. rows k d lt ∙ sym count;
      hashes = subst (λ (m : ℕ). All (λ (slot : Option Description). IfSome slot (λ (d : Description). length d.pad_hashes ≡ m)) found)
          (same ∙ sym count) hashes;
    }

-- there is one for each slot, and they name members alone
pub states-count : (members : ℕ) (found : List (Option Description)) (opened : List (Option (List ℕ))) (table : List (List (List ℕ)))
    (states : List SlotState) (n : ℕ)
    → found ≡ map (option_and_then (descriptor_read n)) opened → length opened ≡ members → states ≡ slot_states found table
    → length states ≡ members
states-count members found opened table states n is opened_count are =
    ap (λ (t : List SlotState). length t) are
    ∙ length-map (enumerate_from 0 found) (λ (p : ℕ × Option Description). slot_state p.1 (pads_for table p.0))
    ∙ length-enumerate_from 0 found
    ∙ ap (λ (t : List (Option Description)). length t) is
    ∙ length-map opened (option_and_then (descriptor_read n)) ∙ opened_count

pub states-name : (members : ℕ) (found : List (Option Description)) (table : List (List (List ℕ))) (states : List SlotState)
    → length table ≡ members → states ≡ slot_states found table
    → All (NamesWithin members) states
states-name members found table states count are =
    subst (λ (t : List SlotState). All (NamesWithin members) t) (sym are)
    (subst (λ (m : ℕ). All (NamesWithin m) (slot_states found table)) count (states_name_members found table))
