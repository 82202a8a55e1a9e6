-- Submissions that open by the shown outer seeds.
use Rattle.std.proofs.Common.{◌≡◌, ℕ, zero, suc, ◌+◌, ◌-◌, ◌<◌, List, [], ◌∷◌, ◌++◌, length, take, true, Option, Some, None, get_or, refl, sym, ap, ◌∙◌, subst, arith}
use Rattle.std.specs.List.{AllZip}
use Rattle.std.specs.Option.{option_and_then, option_map}
use Rattle.std.specs.Str.{bytes_eq}
use Rattle.std.proofs.lemmas.List.{take_more, length-map}
use Rattle.std.proofs.lemmas.List.Elements.{AllZip-get_or, length_all_zip}
use Rattle.std.proofs.lemmas.List.FromFn.{get_or-map-range_with_len, length-map-range_with_len, map-range_with_len_more}
use Rattle.std.proofs.lemmas.Slice.Eq.{bytes_eq-Decides}
use Rattle.wire_core.specs.Answers.{fault_unless}
use Rattle.wire_core.proofs.AnswerLemmas.{fault_unless-holds}
use Rattle.wire_core.proofs.Hashed.{layer_seed_determines}
use Rattle.layer_cipher.specs.Layer.{opened_through, peeled}
use Rattle.layer_cipher.specs.Stripping.{OpensTo, stripped_through}
use Rattle.layer_cipher.proofs.ThroughLemmas.{strips_through_exactly}
use Rattle.shuffle_blame.specs.declared.fault.Cause.TheVariants.{Submission}
use Rattle.shuffle_blame.specs.declared.fault.Shown.{Shown}
use Rattle.shuffle_blame.specs.Replay.{Inquiry, OUTER, fault, has_layer, inside, is_passed, layer_fault, outer_opening, outer_seed, outer_seeds, own_layer_seed, submission, submission_fault, submissions}
use Rattle.shuffle_blame.specs.Laws.{IsMember, NoSubmissionFault, StrippedAreDistinct, own_layer_seeds}
use Rattle.shuffle_blame.proofs.Faults.{first_member-each}

abbrev Found : Type 0
Found = List (List ℕ) × List ℕ

-- ---- one layer more

joined : List ℕ → Found → Found
joined m q = (m ∷ q.0, q.1)

pub opened-nil : (entry : List ℕ) → opened_through [] entry ≡ Some ([], entry)
unfolding opened_through
opened-nil entry = refl

opened-cons : (seed : List ℕ) (seeds : List (List ℕ)) (entry m next : List ℕ) → peeled seed entry ≡ Some (m, next)
    → opened_through (seed ∷ seeds) entry ≡ option_map (joined m) (opened_through seeds next)
unfolding opened_through joined
opened-cons seed seeds entry m next e = rw e refl

record Opened (seed : List ℕ) (seeds : List (List ℕ)) (entry : List ℕ) (all : Found) : Type 0 where
  m : List ℕ
  next : List ℕ
  rest : Found
  first : peeled seed entry ≡ Some (m, next)
  others : opened_through seeds next ≡ Some rest
  is : joined m rest ≡ all

opened_parts : (seed : List ℕ) (seeds : List (List ℕ)) (entry : List ℕ) (all : Found) → opened_through (seed ∷ seeds) entry ≡ Some all
    → Opened seed seeds entry all
unfolding opened_through joined
opened_parts seed seeds entry all e = by_first (peeled seed entry) refl e
  where
    by_rest : (m next : List ℕ) (o : Option Found) → peeled seed entry ≡ Some (m, next) → opened_through seeds next ≡ o
        → option_map (joined m) o ≡ Some all → Opened seed seeds entry all
    by_rest m next None first others e = absurd cc
    by_rest m next (Some rest) first others e = record { m = m; next = next; rest = rest; first = first; others = others; is = cc }

    by_first : (o : Option (List ℕ × List ℕ)) → peeled seed entry ≡ o
        → option_and_then (λ (p : List ℕ × List ℕ). option_map (λ (q : Found). (p.0 ∷ q.0, q.1)) (opened_through seeds p.1)) o ≡ Some all
        → Opened seed seeds entry all
    by_first None first e = absurd cc
    by_first (Some p) first e = by_rest p.0 p.1 (opened_through seeds p.1) first refl e

pub opened-push : (seeds : List (List ℕ)) (seed entry body m next : List ℕ) (ms : List (List ℕ))
    → opened_through seeds entry ≡ Some (ms, body)
    → peeled seed body ≡ Some (m, next) → opened_through (seeds ++ seed ∷ []) entry ≡ Some (ms ++ m ∷ [], next)
unfolding joined
opened-push [] seed entry body m next ms e last =
    let same : Some ([], entry) ≡ Some (ms, body) = sym (opened-nil entry) ∙ e in
    let none : [] ≡ ms = ap (λ (o : Option Found). elim o [ None ↦ [] | Some found ↦ found.0 ]) same in
    let at : entry ≡ body = ap (λ (o : Option Found). elim o [ None ↦ [] | Some found ↦ found.1 ]) same in
    let here : peeled seed entry ≡ Some (m, next) = ap (peeled seed) at ∙ last in
    opened-cons seed [] entry m next here ∙ ap (option_map (joined m)) (opened-nil next)
    ∙ ap (λ (front : List (List ℕ)). Some (front ++ m ∷ [], next)) none
opened-push (first ∷ seeds) seed entry body m next ms e last =
    let parts = opened_parts first seeds entry (ms, body) e in
    let at : parts.rest.1 ≡ body = ap (λ (found : Found). found.1) parts.is in
    let rest : opened_through seeds parts.next ≡ Some (parts.rest.0, body) = parts.others
    ∙ ap (λ (b : List ℕ). Some (parts.rest.0, b)) at in
    let fronts : parts.m ∷ parts.rest.0 ≡ ms = ap (λ (found : Found). found.0) parts.is in
    opened-cons first (seeds ++ seed ∷ []) entry parts.m parts.next parts.first
    ∙ ap (option_map (joined parts.m)) (opened-push seeds seed parts.next body m next parts.rest.0 rest last)
    ∙ ap (λ (front : List (List ℕ)). Some (front ++ m ∷ [], next)) fronts

-- ---- what a layer of a submission carries

carried_here : (seed bytes body : List ℕ) (o : Option (List ℕ × List ℕ)) → peeled seed body ≡ o
    → is_passed (λ m. bytes_eq m bytes) (option_map (λ (found : List ℕ × List ℕ). found.0) o) ≡ true → (next : List ℕ)
    × (peeled seed body ≡ Some (bytes, next))
carried_here seed bytes body None is e = absurd cc
carried_here seed bytes body (Some found) is e =
    (found.1, is ∙ ap (λ (m : List ℕ). Some (m, found.1)) ((bytes_eq-Decides found.0 bytes).0 e))

pub own_seed_here : (q : Inquiry) (shuffle member layers : ℕ) (body : List ℕ) → inside q (submission q member) layers ≡ Some body
    → has_layer q shuffle member (layers + 1) ≡ true → (next : List ℕ)
    × (peeled (outer_seed q (layers + 1)) body ≡ Some (own_layer_seed q shuffle member (layers + 1), next))
own_seed_here q shuffle member layers body is has =
    let place : layers + 1 - 1 ≡ layers = omega arith in
    let there : inside q (submission q member) (layers + 1 - 1) ≡ Some body = ap (inside q (submission q member)) place ∙ is in
    let own : List ℕ = own_layer_seed q shuffle member (layers + 1) in
    let seed : List ℕ = outer_seed q (layers + 1) in
    carried_here seed own body (peeled seed body) refl
    (sym (ap (λ (o : Option (List ℕ)). is_passed (λ m. bytes_eq m own)
    (option_map (λ (found : List ℕ × List ℕ). found.0) (option_and_then (peeled seed) o))) there) ∙ has)

pub layer-right : (q : Inquiry) (shuffle member layer : ℕ) → submission_fault q shuffle ≡ None → IsMember q member → IsMember q layer
    → has_layer q shuffle member layer ≡ true
layer-right q shuffle member layer none is is_layer =
    let here : layer_fault q shuffle member ≡ None = first_member-each q (layer_fault q shuffle) member none is in
    let there = first_member-each q (λ layer. fault_unless (has_layer q shuffle member layer) (fault (Submission layer) member)) layer here
    is_layer in
    fault_unless-holds (has_layer q shuffle member layer) (fault (Submission layer) member) there

-- one outer seed more
pub seeds-next : (q : Inquiry) (layers : ℕ) → layers < length q.shown → take (layers + 1) (outer_seeds q) ≡ take layers (outer_seeds q)
    ++ outer_seed q (layers + 1) ∷ []
seeds-next q layers lt =
    let long = length-map q.shown (λ (shown : Shown). shown.outer_seed) in
    let place : layers ≡ layers + 1 - 1 = omega arith in
    take_more (outer_seeds q) layers [] (omega arith) ∙ ap (λ (k : ℕ). take layers (outer_seeds q) ++ get_or (outer_seeds q) k [] ∷ [])
    place

pub no_submission_fault : NoSubmissionFault
no_submission_fault q shuffle member zero none is le long = (submission q member, opened-nil (submission q member))
no_submission_fault q shuffle member (suc layers) none is le long =
    let prev = no_submission_fault q shuffle member layers none is (omega arith) long in
    let here : inside q (submission q member) layers ≡ Some prev.0 = ap (option_map (λ (found : Found). found.1)) prev.1 in
    let has = layer-right q shuffle member (layers + 1) none is (record { least = omega arith; most = omega arith }) in
    let own = own_seed_here q shuffle member layers prev.0 here has in
    let more : suc layers ≡ layers + 1 = omega arith in
    let seeds = seeds-next q layers (omega arith) in
    let through = opened-push (take layers (outer_seeds q)) (outer_seed q (layers + 1)) (submission q member) prev.0
    (own_layer_seed q shuffle member (layers + 1)) own.0 (own_layer_seeds q shuffle member layers) prev.1 own.1 in
    let ms = map-range_with_len_more (own_layer_seed q shuffle member) 1 layers (layers + 1) (omega arith) in (
      own.0,
      ap (λ (k : ℕ). opened_through (take k (outer_seeds q)) (submission q member)) more
          ∙ ap (λ (s : List (List ℕ)). opened_through s (submission q member)) seeds
          ∙ through
          ∙ ap (λ (front : List (List ℕ)). Some (front, own.0)) (sym ms)
          ∙ ap (λ (k : ℕ). Some (own_layer_seeds q shuffle member k, own.0)) (sym more),
    )

-- ---- what is left of the submissions is distinct

-- a stripped submission
pub stripped-at : (q : Inquiry) (layers place : ℕ) (bodies : List (List ℕ)) (d : List ℕ)
    → stripped_through (take layers (outer_seeds q)) (submissions q) ≡ Some bodies
    → place < length bodies → (place < q.shape.members) × (inside q (submission q (place + 1)) layers ≡ Some (get_or bodies place d))
stripped-at q layers place bodies d e lt =
    let seeds : List (List ℕ) = take layers (outer_seeds q) in
    let all : AllZip (OpensTo seeds) (submissions q) bodies = (strips_through_exactly seeds (submissions q) bodies).0 e in
    let long = length_all_zip (OpensTo seeds) (submissions q) bodies all in
    let count = length-map-range_with_len (submission q) 1 q.shape.members in
    let within : place < q.shape.members = omega arith in
    let here : OpensTo seeds (get_or (submissions q) place []) (get_or bodies place d) = AllZip-get_or (OpensTo seeds) (submissions q)
    bodies place [] d all (omega arith) in
    let own : get_or (submissions q) place [] ≡ submission q (place + 1) = get_or-map-range_with_len (submission q) 1 q.shape.members place
    (place + 1) [] within (omega arith) in
    let opens : OpensTo seeds (submission q (place + 1)) (get_or bodies place d) = subst
    (λ (s : List ℕ). OpensTo seeds s (get_or bodies place d)) own here in
    (within, ap (option_map (λ (found : Found). found.1)) opens.1)

apart : (i j : ℕ) → i < j → i + 1 ≡ j + 1 → ⊥
apart i j before same = omega arith

pub stripped_are_distinct : StrippedAreDistinct
stripped_are_distinct q shuffle layers strings bodies shown none lt long e i j d before within same =
    let first = stripped-at q layers i bodies d e (omega arith) in
    let second = stripped-at q layers j bodies d e within in
    let layer : IsMember q (layers + 1) = record { least = omega arith; most = omega arith } in
    let one : IsMember q (i + 1) = record { least = omega arith; most = omega (arith, first.0) } in
    let other : IsMember q (j + 1) = record { least = omega arith; most = omega (arith, second.0) } in
    let seed : List ℕ = outer_seed q (layers + 1) in
    let own = own_seed_here q shuffle (i + 1) layers (get_or bodies i d) first.1 (layer-right q shuffle (i + 1) (layers + 1) none one layer)
    in
    let own' = own_seed_here q shuffle (j + 1) layers (get_or bodies j d) second.1
    (layer-right q shuffle (j + 1) (layers + 1) none other layer) in
    let both : Some (own_layer_seed q shuffle (i + 1) (layers + 1), own.0) ≡ Some (own_layer_seed q shuffle (j + 1) (layers + 1), own'.0) =
    sym own.1 ∙ ap (peeled seed) same ∙ own'.1 in
    let equal : own_layer_seed q shuffle (i + 1) (layers + 1) ≡ own_layer_seed q shuffle (j + 1) (layers + 1)
    = ap (λ (o : Option (List ℕ × List ℕ)). elim o [ None ↦ [] | Some found ↦ found.0 ]) both in
    let parts = layer_seed_determines strings (outer_opening q (i + 1)) (outer_opening q (j + 1)) q.round q.round shuffle shuffle OUTER
    OUTER (i + 1) (j + 1) (layers + 1) (layers + 1)
    shown.distinct (shown.shown (i + 1) (layers + 1) one layer) (shown.shown (j + 1) (layers + 1) other layer) (shown.openings (i + 1) one)
    (shown.openings (j + 1) other)
    shown.round_small shown.round_small equal in
    apart i j before parts.4
