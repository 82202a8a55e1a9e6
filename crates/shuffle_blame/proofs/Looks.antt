-- What a call finds at one member, one layer or one turn is what the replay looks at there.
use Rattle.std.proofs.Common.{◌≡◌, ℕ, ◌+◌, ◌-◌, ◌≤◌, List, get_or, Bool, Option, sym, ap, ◌∙◌, arith}
use Rattle.wire_core.specs.Hash.{layer_seed}
use Rattle.layer_cipher.specs.Layer.{peeled}
use Rattle.layer_cipher.specs.Stripping.{stripped}
use Rattle.phase_message.specs.declared.content.Body.{Body}
use Rattle.stage_log.specs.Table.{Log}
use Rattle.shuffle_blame.specs.declared.ended.Ended.{Ended}
use Rattle.shuffle_blame.specs.declared.parts.Part.{Part}
use Rattle.shuffle_blame.specs.Rules.{IsEnd, body_kept, body_under, inquiry_at, list_in_order}
use Rattle.shuffle_blame.specs.Replay.{Inquiry, OUTER, body_in, has_outer_key, list_of, outer_seed, own_layer_seed, shows_its_seed, submit_stage}
use Rattle.shuffle_blame.proofs.Loops.{part-opening, part-seed}
use Rattle.shuffle_blame.proofs.Slots.{keys-said, turn-said}

pub seed-told : (log : Log) (ended : Ended) (parts : List Part) (member place : ℕ) (part : Part) (has : Bool) → IsEnd log ended parts
    → 1 ≤ member → member ≤ log.shape.members
    → place ≡ member - 1 → part ≡ get_or parts place part
    → has ≡ has_outer_key ended.shuffle part.key (body_kept log (record { stage = 0; sender = member }))
    → shows_its_seed (inquiry_at log ended parts) ended.shuffle member ≡ has
seed-told log ended parts member place part has is least most at here told =
    let q : Inquiry = inquiry_at log ended parts in
    let seed = part-seed log ended parts member place part at (omega (arith, is.each_shows)) here in
    let said = keys-said log ended parts member is least most in
    ap (λ (s : List ℕ). has_outer_key ended.shuffle s (body_in q 0 member)) (sym seed)
    ∙ ap (has_outer_key ended.shuffle part.key) (sym said)
    ∙ sym told

pub layer-told : (log : Log) (ended : Ended) (parts : List Part) (member layer : ℕ) (found : Option (List ℕ)) (bytes : List ℕ)
    (place at : ℕ) (own part : Part) (m rest : List ℕ)
    → IsEnd log ended parts → 1 ≤ member → member ≤ log.shape.members → 1 ≤ layer → layer ≤ log.shape.members
    → place ≡ member - 1 → own ≡ get_or parts place own → at ≡ layer - 1 → part ≡ get_or parts at part
    → m ≡ layer_seed own.shown.outer_opening ended.round ended.shuffle OUTER member layer → rest ≡ bytes
    → found ≡ body_under m (peeled part.key rest)
    → found ≡ body_under (own_layer_seed (inquiry_at log ended parts) ended.shuffle member layer)
    (peeled (outer_seed (inquiry_at log ended parts) layer) bytes)
layer-told log ended parts member layer found bytes place at own part m rest is least most first last own_place own_here part_place
    part_here own_m own_rest told =
    let q : Inquiry = inquiry_at log ended parts in
    let opening = part-opening log ended parts member place own own_place (omega (arith, is.each_shows)) own_here in
    let seed = part-seed log ended parts layer at part part_place (omega (arith, is.each_shows)) part_here in
    let seal : m ≡ own_layer_seed q ended.shuffle member layer = own_m
    ∙ ap (λ (o : List ℕ). layer_seed o ended.round ended.shuffle OUTER member layer) (sym opening) in
    told
    ∙ ap (λ (x : List ℕ). body_under x (peeled part.key rest)) seal
    ∙ ap (λ (s : List ℕ). body_under (own_layer_seed q ended.shuffle member layer) (peeled s rest)) seed
    ∙ ap (λ (b : List ℕ). body_under (own_layer_seed q ended.shuffle member layer) (peeled (outer_seed q layer) b)) own_rest

pub turn-told : (log : Log) (ended : Ended) (parts : List Part) (turn first : ℕ) (found : Option (List (List ℕ)))
    (entries input : List (List ℕ)) (at : ℕ) (part : Part)
    → IsEnd log ended parts → 1 ≤ turn → turn ≤ log.shape.members
    → first ≡ ended.stage - (log.shape.members + 2) → at ≡ turn - 1 → part ≡ get_or parts at part → entries ≡ input
    → found ≡ list_in_order (stripped part.key entries) (list_of (body_kept log (record { stage = first + turn; sender = turn })))
    → found ≡ list_in_order (stripped (outer_seed (inquiry_at log ended parts) turn) input)
    (list_of (body_in (inquiry_at log ended parts) (submit_stage (inquiry_at log ended parts) + turn) turn))
turn-told log ended parts turn first found entries input at part is least most first_is part_place part_here own_input told =
    let q : Inquiry = inquiry_at log ended parts in
    let seed = part-seed log ended parts turn at part part_place (omega (arith, is.each_shows)) part_here in
    let said = turn-said log ended parts turn is least most in
    told
    ∙ ap (λ (s : List ℕ). list_in_order (stripped s entries) (list_of (body_kept log (record { stage = first + turn; sender = turn }))))
    seed
    ∙ ap (λ (i : List (List ℕ)). list_in_order (stripped (outer_seed q turn) i)
    (list_of (body_kept log (record { stage = first + turn; sender = turn })))) own_input
    ∙ ap (λ (t : ℕ). list_in_order (stripped (outer_seed q turn) input)
    (list_of (body_kept log (record { stage = t + turn; sender = turn })))) first_is
    ∙ ap (λ (b : Body). list_in_order (stripped (outer_seed q turn) input) (list_of b)) said
