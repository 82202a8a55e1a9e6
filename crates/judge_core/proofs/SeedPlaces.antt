-- Where the keys and the revealed seed stand in contents that are taken for WrongSeed.
use Rattle.std.proofs.Common.{◌≡◌, ℕ, zero, suc, ◌+◌, ◌*◌, ◌-◌, ◌<◌, ◌≤◌, true, not, List, [], ◌∷◌, ◌++◌, length, take, drop, Option, Some, None, Result, Ok, Err, refl, sym, ap, subst, ◌∙◌, arith, append_assoc, length-append}
use Rattle.std.specs.Prelude.{bytes_eq, slice_index_or, ◌==◌}
use Rattle.std.specs.List.{AllByRecursion, flat_map}
use Rattle.std.proofs.Math.Seq.{drop-append-add, drop-append_seam, take-append_seam}
use Rattle.std.proofs.lemmas.Bool.{and_parts, not-false}
use Rattle.wire_core.specs.Answers.{fault_as}
use Rattle.wire_core.specs.Bytes.{IsBytes, prefixed}
use Rattle.wire_core.proofs.Readings.{bind_ok, fault_as_ok, guard_ok}
use Rattle.ring_poly.specs.PublicKey.{IsPublicKey}
use Rattle.ring_encrypt.specs.Capsule.{key_of_seed}
use Rattle.phase_message.specs.declared.content.Body.{Body}
use Rattle.phase_message.specs.declared.content.Body.TheVariants.{Keys, Reveal}
use Rattle.phase_message.specs.declared.content.Content.{Content}
use Rattle.phase_message.specs.declared.header.Header.{Header}
use Rattle.phase_message.specs.declared.offence.Offence.{Offence}
use Rattle.phase_message.specs.declared.stage.StageKind.{StageKind}
use Rattle.phase_message.specs.declared.stage.StageKind.TheVariants.{Keys as AtKeys, Submit as AtSubmit, Shuffle as AtShuffle, Go as AtGo, Final as AtFinal, Pad as AtPad, Check as AtCheck, Confirm as AtConfirm}
use Rattle.phase_message.specs.Grammar.{IsBody, body_text, header_text, kind_number}
use Rattle.phase_message.specs.Body.{body_form, form_of}
use Rattle.phase_message.specs.Kinds.{IsBodyAt}
use Rattle.phase_message.specs.Offence.{content_read}
use Rattle.phase_message.specs.Shape.{Shape}
use Rattle.phase_message.specs.Slots.{slots_before}
use Rattle.phase_message.specs.Stages.{kind_of_stage}
use Rattle.phase_message.proofs.BodyKinds.{bodies_are_of_kinds}
use Rattle.phase_message.proofs.Whole.{content-is_spelled, length-header_text}
use Rattle.transcript_form.specs.declared.claim.Claim.{Claim}
use Rattle.transcript_form.specs.declared.claim.Claim.TheVariants.{WrongSeed}
use Rattle.conviction.specs.Accepts.{inner_key}
use Rattle.judge_core.specs.declared.failed_check.FailedCheck.TheVariants.{Body as FailedBody, Kind}
use Rattle.judge_core.specs.Case.{Case, Said, read_of, shape_in}
use Rattle.judge_core.specs.Checks.{content_of, is_keys_stage, is_kind_asked, is_of_bodies, taken_of}
use Rattle.judge_core.specs.Pad.{is_reveal}
use Rattle.judge_core.specs.WrongSeed.{IsKeysContent, RevealsSeed, is_seed_in, is_seed_of_key, shuffle_ended}
use Rattle.judge_core.proofs.Hearings.{asked-as, heard-parts, taken-heard, taken-read}
use Rattle.judge_core.proofs.Showings.{read-header}

-- ---- what is taken

pub is-keys : (kind : Option StageKind) → is_keys_stage kind ≡ true → kind ≡ Some AtKeys
is-keys (Some AtKeys) e = refl
is-keys _ e = absurd cc

pub reveal_body : (body : Body) → is_reveal body ≡ true → (votes : List (List ℕ)) × (seed : List ℕ) × (body ≡ Reveal votes seed)
reveal_body (Reveal votes seed) e = (votes, seed, refl)
reveal_body _ e = absurd cc

-- the first post is of the stage of the keys
pub keys-content : (case : Case) (bytes : List ℕ) (said : Said) → case.claim ≡ WrongSeed → taken_of case None 1 bytes ≡ Ok said
    → IsKeysContent (shape_in case) said.content
unfolding content_of
keys-content case bytes said is e =
    let looked = taken-read case None 1 bytes said (ap is_of_bodies is) e in
    let read = bind_ok (fault_as (λ offence. FailedBody 1 offence.at) (read_of case said)) _ looked.0 looked.1 in
    let found = fault_as_ok (λ offence. FailedBody 1 offence.at) (read_of case said) read.0 read.1 in
    let header = read-header case said read.0 (heard-parts case None 1 bytes said (taken-heard case None 1 bytes said e)).0 found in
    let parts = and_parts (said.header.sender == case.accused) (is_keys_stage (kind_of_stage (shape_in case) said.header.stage))
    (asked-as case WrongSeed None 1 bytes said is e) in
    let at = is-keys (kind_of_stage (shape_in case) said.header.stage) parts.1 in
    record {
      content = read.0;
      reads = found;
      at = ap (λ (h : Header). kind_of_stage (shape_in case) h.stage) (sym header) ∙ at;
    }

-- the second reveals a seed
pub reveals-seed : (case : Case) (first : Header) (bytes : List ℕ) (said : Said) → case.claim ≡ WrongSeed
    → taken_of case (Some first) 2 bytes ≡ Ok said
    → RevealsSeed (shape_in case) said.content
unfolding content_of
reveals-seed case first bytes said is e =
    let looked = taken-read case (Some first) 2 bytes said (ap is_of_bodies is) e in
    let read = bind_ok (fault_as (λ offence. FailedBody 2 offence.at) (read_of case said)) _ looked.0 looked.1 in
    let right = guard_ok (not (is_kind_asked case.claim (Some first) read.0.body)) (Kind 2 (kind_number read.0.body)) read.0 looked.0 read.2
    in
    let found = fault_as_ok (λ offence. FailedBody 2 offence.at) (read_of case said) read.0 read.1 in
    let body = reveal_body read.0.body (subst (λ (c : Claim). is_kind_asked c (Some first) read.0.body ≡ true) is
    (not-false (is_kind_asked case.claim (Some first) read.0.body) right.0)) in
    record {
      header = read.0.header;
      votes = body.0;
      seed = body.1;
      reads = found ∙ ap (λ (b : Body). content_ok read.0.header b) body.2;
    }
  where
    content_ok : Header → Body → Result Content Offence
    content_ok header body = Ok (record { header = header; body = body })

-- ---- what is right of a seed

-- of contents that are read
pub seed-right : (kind : Option StageKind) (first last : Result Content Offence) (a b : Content) (shuffle : ℕ) (keys votes : List (List ℕ))
    (seed : List ℕ)
    → kind ≡ Some (AtFinal shuffle) → first ≡ Ok a → last ≡ Ok b → a.body ≡ Keys keys → b.body ≡ Reveal votes seed
    → is_seed_of_key kind first last ≡ bytes_eq (key_of_seed seed) (inner_key shuffle keys)
seed-right kind first last a b shuffle keys votes seed e1 e2 e3 e4 e5 =
    rw (e1, e2, e3) (ap (λ (body : Body). is_seed_in (Some (AtFinal shuffle)) body b.body) e4
    ∙ ap (λ (body : Body). is_seed_in (Some (AtFinal shuffle)) (Keys keys) body) e5)

pub ended-is : (kind : Option StageKind) (shuffle : ℕ) → shuffle_ended kind ≡ Some shuffle → kind ≡ Some (AtFinal shuffle)
ended-is (Some (AtFinal s)) shuffle e = let same : s ≡ shuffle = cc in ap (λ (k : ℕ). some_final k) same
  where
    some_final : ℕ → Option StageKind
    some_final k = Some (AtFinal k)
ended-is _ shuffle e = absurd cc

-- elsewhere nothing is wrong
pub right-elsewhere : (kind : Option StageKind) (first last : Result Content Offence) → shuffle_ended kind ≡ None
    → is_seed_of_key kind first last ≡ true
right-elsewhere kind (Err offence) last e = refl
right-elsewhere kind (Ok a) (Err offence) e = refl
right-elsewhere kind (Ok a) (Ok b) e = in_kind kind a.body b.body e
  where
    in_kind : (kind : Option StageKind) (keys final : Body) → shuffle_ended kind ≡ None → is_seed_in kind keys final ≡ true
    in_kind None keys final e = refl
    in_kind (Some (AtFinal s)) keys final e = absurd cc
    in_kind (Some AtKeys) keys final e = refl
    in_kind (Some (AtSubmit s)) keys final e = refl
    in_kind (Some (AtShuffle s k)) keys final e = refl
    in_kind (Some (AtGo s)) keys final e = refl
    in_kind (Some AtPad) keys final e = refl
    in_kind (Some AtCheck) keys final e = refl
    in_kind (Some AtConfirm) keys final e = refl

-- ---- the keys

-- at the stage of the keys a body is one of five keys
pub keys-at : (shape : Shape) (before : ℕ) (body : Body) → IsBodyAt shape before AtKeys body
    → (keys : List (List ℕ)) × (body ≡ Keys keys) × AllByRecursion IsPublicKey keys × (length keys ≡ 5)
keys-at shape before (Keys keys) is = (keys, refl, is.0, is.1)
keys-at shape before _ is = absurd is

pub keys_body : (shape : Shape) (stage : ℕ) (body : Body) → kind_of_stage shape stage ≡ Some AtKeys → IsBody shape stage body
    → (keys : List (List ℕ)) × (body ≡ Keys keys) × AllByRecursion IsPublicKey keys × (length keys ≡ 5)
keys_body shape stage body at is = keys-at shape (slots_before shape stage) body ((bodies_are_of_kinds shape stage AtKeys body at).0 is)

-- keys one after the other
flat-long : (keys : List (List ℕ)) → AllByRecursion IsPublicKey keys → length (flat_map (λ key. key) keys) ≡ 1824 * length keys
flat-long [] all = refl
flat-long (key ∷ keys) all =
    omega (arith, length-append key (flat_map (λ key. key) keys), all.0.length, flat-long keys all.1)

part : (keys : List (List ℕ)) (place : ℕ) → AllByRecursion IsPublicKey keys → place < length keys
    → take 1824 (drop (1824 * place) (flat_map (λ key. key) keys)) ≡ slice_index_or keys place []
part [] place all lt = absurd (omega arith)
part (key ∷ keys) zero all lt =
    let rest : List ℕ = flat_map (λ key. key) keys in
    let none : 1824 * 0 ≡ 0 = omega arith in
    let long : 1824 ≡ length key = omega (arith, all.0.length) in
    ap (λ (n : ℕ). take 1824 (drop n (key ++ rest))) none ∙ ap (λ (n : ℕ). take n (key ++ rest)) long ∙ take-append_seam key rest
part (key ∷ keys) (suc place) all lt =
    let rest : List ℕ = flat_map (λ key. key) keys in
    let next : 1824 * suc place ≡ length key + 1824 * place = omega (arith, all.0.length) in
    ap (λ (n : ℕ). take 1824 (drop n (key ++ rest))) next ∙ ap (λ (l : List ℕ). take 1824 l) (drop-append-add key rest (1824 * place))
    ∙ part keys place all.1 (omega arith)

-- where the keys of a content stand
pub record KeysLaid (shape : Shape) (bytes : List ℕ) : Type 0 where
  pub header : Header
  pub keys : List (List ℕ)
  pub reads : content_read shape bytes ≡ Ok (record { header = header; body = Keys keys })
  pub long : length bytes ≡ 9196
  pub at : (place : ℕ) → place < 5 → take 1824 (drop (76 + 1824 * place) bytes) ≡ slice_index_or keys place []

pub keys-laid : (shape : Shape) (bytes : List ℕ) → IsBytes bytes → IsKeysContent shape bytes → KeysLaid shape bytes
keys-laid shape bytes fits k =
    let c : Content = k.content in
    let found = content-is_spelled shape bytes c fits k.reads in
    let body = keys_body shape c.header.stage c.body k.at found.1.1 in
    let keys : List (List ℕ) = body.0 in
    let front : List ℕ = header_text c.header ++ (1 ∷ []) in
    let rest : List ℕ = flat_map (λ key. key) keys in
    let text : bytes ≡ front ++ rest =
    found.0 ∙ ap (λ (b : Body). header_text c.header ++ ((kind_number b ∷ []) ++ body_text b)) body.1
    ∙ sym (append_assoc (header_text c.header) (1 ∷ []) rest) in
    let front_long : length front ≡ 76 = omega (
      arith,
      length-append (header_text c.header) (1 ∷ []),
      length-header_text shape c.header
          found.1.0,
    ) in
    record {
      header = c.header;
      keys = keys;
      reads = k.reads ∙ ap (λ (b : Body). content_ok c.header b) body.1;
      long = omega (arith, ap (λ (b : List ℕ). length b) text, length-append front rest, front_long, flat-long keys body.2, body.3);
      at = λ place lt.
          let there : 76 + 1824 * place ≡ length front + 1824 * place = omega (arith, front_long) in
          ap (λ (b : List ℕ). take 1824 (drop (76 + 1824 * place) b)) text ∙ ap (λ (n : ℕ). take 1824 (drop n (front ++ rest))) there
          ∙ ap (λ (l : List ℕ). take 1824 l) (drop-append-add front rest (1824 * place))
          ∙ part keys place body.2 (omega (arith, lt, body.3));
    }
  where
    content_ok : Header → Body → Result Content Offence
    content_ok header body = Ok (record { header = header; body = body })

-- ---- the seed

-- a body of the grammar stands at a stage of some kind
kind-some : {F : Type 0} (o : Option StageKind) (form : Option StageKind → Option F) (f : F) → form None ≡ None → form o ≡ Some f
    → (kind : StageKind) × (o ≡ Some kind)
kind-some {F} (Some kind) form f none some = (kind, refl)
kind-some {F} None form f none some = absurd (never (form None) none some)
  where
    never : (o : Option F) → o ≡ None → o ≡ Some f → ⊥
    never None none some = absurd cc
    never (Some x) none some = absurd cc

seed-at : (shape : Shape) (before : ℕ) (kind : StageKind) (votes : List (List ℕ)) (seed : List ℕ)
    → IsBodyAt shape before kind (Reveal votes seed) → length seed ≡ 32
seed-at shape before (AtFinal shuffle) votes seed is = is.1
seed-at shape before _ votes seed is = absurd is

seed-long : (shape : Shape) (stage : ℕ) (votes : List (List ℕ)) (seed : List ℕ) → IsBody shape stage (Reveal votes seed) → length seed ≡ 32
unfolding body_form
seed-long shape stage votes seed is =
    let kind = kind-some (kind_of_stage shape stage) (λ o. form_of shape (slots_before shape stage) o 6) is.0 refl is.1 in
    seed-at shape (slots_before shape stage) kind.0 votes seed ((bodies_are_of_kinds shape stage kind.0 (Reveal votes seed) kind.1).0 is)

pub record SeedLaid (bytes seed : List ℕ) : Type 0 where
  pub long : length seed ≡ 32
  pub most : 32 ≤ length bytes
  pub at : drop (length bytes - 32) bytes ≡ seed

pub seed-laid : (shape : Shape) (bytes : List ℕ) → IsBytes bytes → (r : RevealsSeed shape bytes) → SeedLaid bytes r.seed
seed-laid shape bytes fits r =
    let c : Content = record { header = r.header; body = Reveal r.votes r.seed } in
    let found = content-is_spelled shape bytes c fits r.reads in
    let long = seed-long shape r.header.stage r.votes r.seed found.1.1 in
    let votes : List ℕ = 6 ∷ flat_map prefixed r.votes in
    let front : List ℕ = header_text r.header ++ votes in
    let text : bytes ≡ front ++ r.seed = found.0 ∙ sym (append_assoc (header_text r.header) votes r.seed) in
    let whole : length bytes ≡ length front + 32 = omega (arith, ap (λ (b : List ℕ). length b) text, length-append front r.seed, long) in
    let left : length bytes - 32 ≡ length front = omega (arith, whole) in
    record {
      long = long;
      most = omega (arith, whole);
      at = ap (λ (n : ℕ). drop n bytes) left ∙ ap (λ (b : List ℕ). drop (length front) b) text ∙ drop-append_seam front r.seed;
    }
