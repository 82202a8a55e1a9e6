-- What the checks of a pad come to.
use Rattle.std.proofs.Common.{◌≡◌, ℕ, List, [], ◌∷◌, ◌++◌, length, All, map, take, Option, Some, None, Result, Ok, Err, refl, sym, ap, subst, ◌∙◌, arith, length-append}
use Rattle.std.specs.Prelude.{IfSome, ◌==◌}
use Rattle.std.specs.List.{slice_get}
use Rattle.std.specs.Option.{option_and_then, option_map}
use Rattle.std.proofs.Math.Seq.{take-append_seam}
use Rattle.std.proofs.lemmas.Bool.{eq-eqb}
use Rattle.std.proofs.lemmas.List.{length-map, map_push}
use Rattle.std.proofs.lemmas.List.FromFn.{length-map-range_with_len}
use Rattle.wire_core.specs.Answers.{IsFault, first_some, value_unless}
use Rattle.wire_core.proofs.AnswerLemmas.{fault_unless-true}
use Rattle.phase_message.specs.declared.content.Body.TheVariants.{Pads}
use Rattle.phase_message.specs.declared.content.Content.{Content}
use Rattle.phase_message.specs.declared.header.Header.{Header}
use Rattle.phase_message.specs.Grammar.{OfGrammar}
use Rattle.phase_message.specs.Offence.{content_read}
use Rattle.phase_message.specs.Shape.{Shape}
use Rattle.phase_message.specs.Stages.{kind_of_stage}
use Rattle.phase_message.proofs.Whole.{content-header}
use Rattle.bulk_descriptor.specs.Descriptor.{Description, descriptor_read}
use Rattle.bulk_descriptor.specs.SlotState.{AreSlots}
use Rattle.shuffle_core.specs.Shuffle.{opened_item, opened_list}
use Rattle.round_spec.specs.Slots.{bulk_place, descriptors_opened, entries_opened, items_opened, keys_said, list_said, pads_in, seeds_revealed}
use Rattle.judge_core.specs.declared.hearing.Said.{Said as GivenSaid}
use Rattle.accusation.specs.declared.holding.AccusationRefusal.{AccusationRefusal}
use Rattle.accusation.specs.Accusation.{refusal_of}
use Rattle.transcript_form.specs.declared.accusation.Accusation.{Accusation}
use Rattle.judge_core.specs.declared.failed_check.FailedCheck.{FailedCheck}
use Rattle.judge_core.specs.declared.failed_check.FailedCheck.TheVariants.{OtherMember, Accusation as Refuted}
use Rattle.judge_core.specs.Case.{Case, Said, said_of, shape_in}
use Rattle.judge_core.specs.Pad.{accusation_failure, count_before_pads, opening_failure, pad_answer, pad_failure_of, row_of, table_of}
use Rattle.judge_core.specs.PadLog.{ArePadPosts, IsPadsPost, IsUnopened, contents_said}
use Rattle.judge_core.proofs.PadReadings.{header_is}
use Rattle.judge_core.proofs.PadSlots.{pads-said}

-- ---- the pads of the accused

-- what a post of pads says
pub pads-body : (case : Case) (one : GivenSaid) (content : Content) → IsPadsPost case one
    → content_read (shape_in case) one.content.now ≡ Ok content
    → OfGrammar (shape_in case) content
    → (pads : List (List ℕ)) × (content.body ≡ Pads pads) × (length pads ≡ (shape_in case).members)
pads-body case one content is read grammar =
    let header = header_is content.header one.header (sym (content-header (shape_in case) one.content.now content read)
    ∙ is.readable.header) in
    pads-said (shape_in case) content.header.stage content.body (ap (λ (h : Header). kind_of_stage (shape_in case) h.stage) header ∙ is.at)
    grammar.1

-- ---- descriptors

-- what the last list opens to
pub descriptors-are : (shape : Shape) (past seeds list : List (List ℕ)) → seeds ≡ seeds_revealed shape past 1
    → list_said shape past 1 shape.members ≡ Some list
    → map (option_and_then (descriptor_read shape.members)) (opened_list seeds list) ≡ descriptors_opened shape past
unfolding descriptors_opened items_opened
descriptors-are shape past seeds list e said =
    ap (map (option_and_then (descriptor_read shape.members)))
    (ap (λ (s : List (List ℕ)). opened_list s list) e ∙ sym (ap (entries_opened shape (seeds_revealed shape past 1)) said))

-- ---- the table

-- so many pads a post of pads says
pub pads-count : (case : Case) (one : GivenSaid) (content : Content) (row : List (List ℕ)) → IsPadsPost case one
    → content_read (shape_in case) one.content.now ≡ Ok content → OfGrammar (shape_in case) content
    → row ≡ pads_in content.body → length row ≡ (shape_in case).members
pads-count case one content row is read grammar e =
    let said = pads-body case one content is read grammar in
    ap (λ (l : List (List ℕ)). length l) (e ∙ ap pads_in said.1) ∙ said.2

-- the descriptors and the table are of as many slots
pub are-slots : (case : Case) (shape : Shape) (pads seeds list : List (List ℕ)) (descriptors : List (Option Description))
    (table : List (List (List ℕ)))
    → shape ≡ shape_in case → table ≡ table_of case pads
    → All (λ row. length row ≡ (shape_in case).members) table → length list ≡ (shape_in case).members
    → descriptors ≡ map (option_and_then (descriptor_read shape.members)) (opened_list seeds list) → All
    (λ slot. IfSome slot (λ d. length d.pad_hashes ≡ shape.members)) descriptors
    → AreSlots descriptors table × (length descriptors ≡ (shape_in case).members)
are-slots case shape pads seeds list descriptors table same is rows count opened hashes =
    let n : ℕ = (shape_in case).members in
    let many : length table ≡ n = ap (λ (t : List (List (List ℕ))). length t) is ∙ length-map-range_with_len (row_of case pads) 1 n in
    let slots : length descriptors ≡ n = omega (
      arith,
      ap (λ (d : List (Option Description)). length d) opened,
      length-map (opened_list seeds list)
          (option_and_then (descriptor_read shape.members)),
      length-map list (opened_item seeds),
      count,
    ) in (
      record {
        members = many ∙ sym slots;
        pads = subst (λ (m : ℕ). All (λ (row : List (List ℕ)). length row ≡ m) table) (sym slots) rows;
        hashes = subst (λ (m : ℕ). All (λ slot. IfSome slot (λ d. length d.pad_hashes ≡ m)) descriptors)
            (ap (λ (s : Shape). s.members) same ∙ sym slots) hashes;
      },
      slots,
    )

-- ---- the accusation

-- whether it holds by what was opened is whether it holds by the log
pub holds-by-log : (case : Case) (shape : Shape) (past seeds list pads keys : List (List ℕ)) (table : List (List (List ℕ)))
    (descriptors : List (Option Description)) (a : Accusation) (r : Result (Unit {0}) AccusationRefusal)
    → shape ≡ shape_in case → seeds ≡ seeds_revealed (shape_in case) past 1
    → list_said (shape_in case) past 1 (shape_in case).members ≡ Some list
    → descriptors ≡ map (option_and_then (descriptor_read shape.members)) (opened_list seeds list) → table ≡ table_of case pads
    → keys ≡ keys_said shape past bulk_place
    → r ≡ value_unless (refusal_of a descriptors table keys) (tt {0}) → r ≡ value_unless
    (refusal_of a (descriptors_opened (shape_in case) past) (table_of case pads) (keys_said (shape_in case) past bulk_place)) (tt {0})
holds-by-log case shape past seeds list pads keys table descriptors a r same e said opened is own answers =
    let n = ap (λ (s : Shape). map (option_and_then (descriptor_read s.members)) (opened_list seeds list)) same in
    let found : descriptors ≡ descriptors_opened (shape_in case) past = opened ∙ n
    ∙ descriptors-are (shape_in case) past seeds list e said in
    let bulk : keys ≡ keys_said (shape_in case) past bulk_place = own ∙ ap (λ (s : Shape). keys_said s past bulk_place) same in
    answers ∙ ap (λ (d : List (Option Description)). value_unless (refusal_of a d table keys) (tt {0})) found
    ∙ ap (λ (t : List (List (List ℕ))). value_unless (refusal_of a (descriptors_opened (shape_in case) past) t keys) (tt {0})) is
    ∙ ap (λ (k : List (List ℕ)). value_unless (refusal_of a (descriptors_opened (shape_in case) past) (table_of case pads) k) (tt {0})) bulk

accused-refusal : (case : Case) (past pads : List (List ℕ)) (a : Accusation) → a.member ≡ case.accused
    → accusation_failure case past pads (Some a) ≡ option_map (λ refusal. Refuted refusal)
    (refusal_of a (descriptors_opened (shape_in case) past) (table_of case pads) (keys_said (shape_in case) past bulk_place))
accused-refusal case past pads a is =
    let refuted : Option FailedCheck =
    option_map (λ refusal. Refuted refusal) (refusal_of a (descriptors_opened (shape_in case) past) (table_of case pads)
    (keys_said (shape_in case) past bulk_place)) in
    ap (λ (o : Option FailedCheck). first_some (o ∷ refuted ∷ []))
    (fault_unless-true (a.member == case.accused) OtherMember (eq-eqb a.member case.accused is))
    ∙ only refuted
  where
    only : (o : Option FailedCheck) → first_some (None ∷ o ∷ []) ≡ o
    only None = refl
    only (Some f) = refl

refuted : (o : Option AccusationRefusal) (refusal : AccusationRefusal) → value_unless o (tt {0}) ≡ Err refusal
    → value_unless (option_map (λ r. Refuted r) o) (tt {0}) ≡ Err (Refuted refusal)
refuted (Some r) refusal e = let same : r ≡ refusal = cc in rw same refl
refuted None refusal e = absurd cc

borne : (o : Option AccusationRefusal) → value_unless o (tt {0}) ≡ Ok tt → value_unless (option_map (λ r. Refuted r) o) (tt {0}) ≡ Ok tt
borne None e = refl
borne (Some r) e = absurd cc

-- where the accused is named, that decides
pub accusation-fails : (case : Case) (past pads : List (List ℕ)) (detail : Option Accusation) (a : Accusation) (refusal : AccusationRefusal)
    (r : Result (Unit {0}) AccusationRefusal)
    → detail ≡ Some a → a.member ≡ case.accused → r ≡ Err refusal
    → r ≡ value_unless (refusal_of a (descriptors_opened (shape_in case) past) (table_of case pads)
    (keys_said (shape_in case) past bulk_place)) (tt {0})
    → value_unless (accusation_failure case past pads detail) (tt {0}) ≡ Err (Refuted refusal)
accusation-fails case past pads detail a refusal r is own e answers =
    ap (λ (d : Option Accusation). value_unless (accusation_failure case past pads d) (tt {0})) is
    ∙ ap (λ (o : Option FailedCheck). value_unless o (tt {0})) (accused-refusal case past pads a own)
    ∙ refuted (refusal_of a (descriptors_opened (shape_in case) past) (table_of case pads) (keys_said (shape_in case) past bulk_place))
    refusal (sym answers ∙ e)

pub accusation-holds : (case : Case) (past pads : List (List ℕ)) (detail : Option Accusation) (a : Accusation)
    (r : Result (Unit {0}) AccusationRefusal)
    → detail ≡ Some a → a.member ≡ case.accused → r ≡ Ok tt
    → r ≡ value_unless (refusal_of a (descriptors_opened (shape_in case) past) (table_of case pads)
    (keys_said (shape_in case) past bulk_place)) (tt {0})
    → value_unless (accusation_failure case past pads detail) (tt {0}) ≡ Ok tt
accusation-holds case past pads detail a r is own e answers =
    ap (λ (d : Option Accusation). value_unless (accusation_failure case past pads d) (tt {0})) is
    ∙ ap (λ (o : Option FailedCheck). value_unless o (tt {0})) (accused-refusal case past pads a own)
    ∙ borne (refusal_of a (descriptors_opened (shape_in case) past) (table_of case pads) (keys_said (shape_in case) past bulk_place))
    (sym answers ∙ e)

-- ---- all checks

abbrev pub checks_of : Case → List (List ℕ) → Said → Result (Unit {0}) FailedCheck
checks_of case past pad = value_unless (pad_failure_of case past (Some pad)) (tt {0})

-- of a log and a post of pads behind it
pub checks-are : (case : Case) (said log : List GivenSaid) (pads : GivenSaid) → said ≡ log ++ pads ∷ []
    → length log ≡ count_before_pads (shape_in case)
    → pad_answer case (map said_of said) ≡ checks_of case (contents_said log) (said_of pads)
checks-are case said log pads is long =
    let front : List Said = map said_of log in
    let count : ℕ = count_before_pads (shape_in case) in
    let content : Said → List ℕ = λ one. one.content in
    let all : map said_of said ≡ front ++ said_of pads ∷ [] = ap (map said_of) is ∙ map_push said_of log pads in
    let end : count ≡ length front = sym long ∙ sym (length-map log said_of) in
    let past : map content (take count (front ++ said_of pads ∷ [])) ≡ contents_said log =
    ap (λ (k : ℕ). map content (take k (front ++ said_of pads ∷ []))) end ∙ ap (map content) (take-append_seam front (said_of pads ∷ []))
    ∙ map_map said_of content log in
    let last : slice_get (front ++ said_of pads ∷ []) count ≡ Some (said_of pads) = ap (slice_get (front ++ said_of pads ∷ [])) end
    ∙ last-got front (said_of pads) in
    ap (pad_answer case) all
    ∙ ap (λ (p : List (List ℕ)). value_unless (pad_failure_of case p (slice_get (front ++ said_of pads ∷ []) count)) (tt {0})) past
    ∙ ap (λ (o : Option Said). value_unless (pad_failure_of case (contents_said log) o) (tt {0})) last
  where
    last-got : (xs : List Said) (x : Said) → slice_get (xs ++ x ∷ []) (length xs) ≡ Some x
    last-got [] x = refl
    last-got (y ∷ xs) x = last-got xs x

    map_map : (f : GivenSaid → Said) (g : Said → List ℕ) (xs : List GivenSaid) → map g (map f xs) ≡ map (λ x. g (f x)) xs
    map_map f g [] = refl
    map_map f g (x ∷ xs) = ap (λ (l : List (List ℕ)). g (f x) ∷ l) (map_map f g xs)

-- where the view is another
pub view-fails : (v o a : Option FailedCheck) (failed : FailedCheck) → value_unless v (tt {0}) ≡ Err failed
    → value_unless (first_some (v ∷ o ∷ a ∷ [])) (tt {0}) ≡ Err failed
view-fails (Some f) o a failed e = e
view-fails None o a failed e = absurd cc

-- where the log does not open
pub opening-fails : (shape : Shape) (past : List (List ℕ)) (v a failed : Option FailedCheck) → value_unless v (tt {0}) ≡ Ok tt
    → IsUnopened shape past failed → IsFault failed (value_unless (first_some (v ∷ opening_failure shape past ∷ a ∷ [])) (tt {0}))
opening-fails shape past v a None e unopened = tt
opening-fails shape past None a (Some failed) e unopened = ap (λ (o : Option FailedCheck). value_unless (first_some (None ∷ o ∷ a ∷ []))
    (tt {0})) unopened
opening-fails shape past (Some f) a (Some failed) e unopened = absurd cc

-- where it does, the accusation decides
pub accusation-decides : (v o a : Option FailedCheck) → value_unless v (tt {0}) ≡ Ok tt → o ≡ None
    → value_unless (first_some (v ∷ o ∷ a ∷ [])) (tt {0}) ≡ value_unless a (tt {0})
accusation-decides None None None e is = refl
accusation-decides None None (Some f) e is = refl
accusation-decides None (Some f) a e is = absurd cc
accusation-decides (Some f) o a e is = absurd cc

-- the log that was split off is as long as it is to be
pub split-long : (case : Case) (said log : List GivenSaid) (pads : GivenSaid) → ArePadPosts case said → said ≡ log ++ pads ∷ []
    → length log ≡ count_before_pads (shape_in case)
split-long case said log pads are is =
    omega (
      arith,
      ap (λ (l : List GivenSaid). length l) (sym is ∙ are.all),
      length-append log (pads ∷ []),
      length-append are.log
          (are.pads ∷ []),
      are.is_log.whole,
    )
