-- What was found of the stages before is right at the end of a closing stage too.
use Rattle.std.proofs.Common.{◌≡◌, ℕ, zero, suc, ◌+◌, ◌<◌, ◌≤◌, List, Option, Some, None, ◌∙◌, subst, arith}
use Rattle.stage_log.specs.Table.{Log}
use Rattle.shuffle_blame.specs.Asked.{past_of}
use Rattle.honest_say.specs.declared.opening.Slots.{Slots}
use Rattle.honest_say.specs.Opened.{AreSlotsSaid}
use Rattle.honest_say.specs.Stays.{AreReached}
use Rattle.honest_say.proofs.Staying.{descriptors-stay, items_stay, keys_stay, pads-stay, slots_stay}
use Rattle.round_spec.specs.Slots.{items_opened, keys_said, pad_stage}
use Rattle.closing_verdict.specs.Carried.{AreItemsOf, AreSlotsOf, CarriesOpened, CarriesSlots, stage_found, stage_opened}
use Rattle.closing_verdict.specs.Judgement.{Completed, IsComplete}
use Rattle.closing_verdict.proofs.PadPosts.{front-some}

-- ---- what is carried is there

pub opened-there : (log : Log) (stage : ℕ) (opened : Option (List (Option (List ℕ)))) (items : List (Option (List ℕ)))
    → CarriesOpened log stage opened → opened ≡ Some items → AreItemsOf log items
opened-there log stage opened items carries is = (let carried = subst (CarriesOpened log stage) is carries in carried)

pub slots-there : (log : Log) (stage : ℕ) (found : Option Slots) (slots : Slots) → CarriesSlots log stage found → found ≡ Some slots
    → AreSlotsOf log slots
slots-there log stage found slots carries is = (let carried = subst (CarriesSlots log stage) is carries in carried)

pub never-opened : (log : Log) (stage : ℕ) (opened : Option (List (Option (List ℕ)))) → CarriesOpened log stage opened → opened ≡ None
    → stage_opened log ≤ stage → ⊥
never-opened log stage opened carries is late = (let early = subst (CarriesOpened log stage) is carries in omega (arith, early, late))

pub never-found : (log : Log) (stage : ℕ) (found : Option Slots) → CarriesSlots log stage found → found ≡ None → stage_found log ≤ stage → ⊥
never-found log stage found carries is late = (let early = subst (CarriesSlots log stage) is carries in omega (arith, early, late))

-- ---- and right now too

reached-now : (c : Completed) (stage : ℕ) → IsComplete c → stage ≤ c.stage → AreReached c.log stage (c.stage + 1)
reached-now c stage is le = record { order = omega (arith, le); at = front-some c is stage le; at_later = is.there }

pub keys-now : (c : Completed) (place : ℕ) → IsComplete c → 1 ≤ c.stage
    → keys_said c.log.shape (past_of c.log 1) place ≡ keys_said c.log.shape (past_of c.log (c.stage + 1)) place
keys-now c place is le = keys_stay c.log 1 (c.stage + 1) place (reached-now c 1 is le) (omega arith)

pub items-now : (c : Completed) (items : List (Option (List ℕ))) → IsComplete c → stage_opened c.log ≤ c.stage → AreItemsOf c.log items
    → items ≡ items_opened c.log.shape (past_of c.log (c.stage + 1)) 1
items-now c items is le are = are.are ∙ items_stay c.log (stage_opened c.log) (c.stage + 1) 1 (reached-now c (stage_opened c.log) is le)
    (omega arith) (omega arith) (omega arith)

pub slots-now : (c : Completed) (slots : Slots) → IsComplete c → stage_found c.log ≤ c.stage → AreSlotsOf c.log slots
    → AreSlotsSaid c.log.shape (past_of c.log (c.stage + 1)) slots
slots-now c slots is le are =
    let reached = reached-now c (stage_found c.log) is le in
    let behind : pad_stage c.log.shape < stage_found c.log = omega arith in record {
      descriptors = are.descriptors ∙ descriptors-stay c.log (stage_found c.log) (c.stage + 1) reached behind;
      pads = are.pads ∙ pads-stay c.log (stage_found c.log) (c.stage + 1) reached behind;
      states = are.states ∙ slots_stay c.log (stage_found c.log) (c.stage + 1) reached behind;
      fit = are.fit;
      count = are.count;
      names = are.names;
    }
