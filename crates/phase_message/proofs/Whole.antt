-- The same pair of laws for a header and for a whole content.
use Rattle.std.proofs.Common.{◌≡◌, ℕ, ◌+◌, ◌≤◌, true, false, List, [], ◌∷◌, ◌++◌, length, refl, ap, sym, ◌∙◌, subst, arith, inl, inr, append_assoc, append-nil, length-append, eq-eqb, eqb-true}
use Rattle.std.specs.Prelude.{Option, Some, None, Result, Ok, Err, IfOk, nat_lt, ◌==◌}
use Rattle.std.specs.Int.{w8, w64, to_be_bytes}
use Rattle.std.proofs.lemmas.Bool.{ltb-false, le-ltb}
use Rattle.wire_core.specs.declared.cursor.Short.{Short}
use Rattle.wire_core.specs.Bytes.{IsBytes}
use Rattle.wire_core.specs.Reading.{Reading, reading_at, reading_of, bytes_at, number_at, Takes, Gives}
use Rattle.wire_core.proofs.Readings.{chosen, Takes-append, Takes-bytes, bytes_at-takes, bytes_at-again, number_at-takes_1, number_at-takes_8, number_at-again_1, number_at-again_8}
use Rattle.phase_message.specs.declared.header.Header.{Header}
use Rattle.phase_message.specs.declared.stage.StageKind.{StageKind}
use Rattle.phase_message.specs.declared.stage.StageKind.TheVariants.{Keys as AtKeys, Submit as AtSubmit, Shuffle as AtShuffle, Go as AtGo, Final as AtFinal, Pad as AtPad, Check as AtCheck, Confirm as AtConfirm}
use Rattle.phase_message.specs.declared.form.BodyForm.{BodyForm}
use Rattle.phase_message.specs.declared.form.BodyForm.TheVariants.{Keys as OfKeys, Submit as OfSubmit, Shuffled as OfShuffled, Abort as OfAbort, Go as OfGo, Reveal as OfReveal, Dispute as OfDispute, Pads as OfPads, Check as OfCheck, Confirm as OfConfirm, Differ as OfDiffer}
use Rattle.phase_message.specs.declared.content.Body.{Body}
use Rattle.phase_message.specs.declared.content.Body.TheVariants.{Keys, Submit, Shuffled, Abort, Go, Reveal, Dispute, Pads, Check, Confirm, Differ}
use Rattle.phase_message.specs.declared.content.Content.{Content}
use Rattle.phase_message.specs.Shape.{Shape}
use Rattle.phase_message.specs.Stages.{is_slot, kind_of_stage}
use Rattle.phase_message.specs.Slots.{slots_before}
use Rattle.phase_message.specs.Header.{header_at, header_of}
use Rattle.phase_message.specs.Body.{only, either, form_in, form_of, body_form, level}
use Rattle.phase_message.specs.declared.content.DecodeRefusal.{DecodeRefusal}
use Rattle.phase_message.specs.Offence.{fault, head_at, body_at, content_read}
use Rattle.phase_message.specs.Grammar.{header_text, kind_number, body_text, content_text, Fits, HasWidths, BeginsWith, IsHeader, OfGrammar}
use Rattle.phase_message.proofs.Parts.{value_ok, header-parts, head-parts, content-parts}
use Rattle.phase_message.proofs.Bodies.{body-takes, body-again}

-- ---- headers

header-takes : (r : Reading) (x : Header × Reading) → IsBytes r.rest → header_at r ≡ Ok x → Takes (header_text x.0) r x.1 × HasWidths x.0
header-takes r x bytes e =
    let p = header-parts r x e in
    subst (λ (x : Header × Reading). Takes (header_text x.0) r x.1 × HasWidths x.0) p.whole
    (fields-take r p.version p.group p.round p.stage p.sender p.view bytes p.version_read p.group_read p.round_read p.stage_read
    p.sender_read p.view_read)
  where
    fields-take : (r : Reading) (a : ℕ × Reading) (b : List ℕ × Reading) (c d f : ℕ × Reading) (g : List ℕ × Reading) → IsBytes r.rest
        → number_at w8 r ≡ Ok a → bytes_at 32 a.1 ≡ Ok b → number_at w64 b.1 ≡ Ok c → number_at w8 c.1 ≡ Ok d → number_at w8 d.1 ≡ Ok f
        → bytes_at 32 f.1 ≡ Ok g → Takes (header_text (record {
          version = a.0;
          group = b.0;
          round = c.0;
          stage = d.0;
          sender = f.0;
          view =
              g.0;
        })) r g.1 × HasWidths (record { version = a.0; group = b.0; round = c.0; stage = d.0; sender = f.0; view = g.0 })
    fields-take r a b c d f g bytes ea eb ec ed ef eg =
        let version = number_at-takes_1 r a bytes ea in
        let left_1 : IsBytes a.1.rest = (Takes-bytes (a.0 ∷ []) r a.1 version.0 bytes).1 in
        let group = bytes_at-takes 32 a.1 b eb in
        let left_2 : IsBytes b.1.rest = (Takes-bytes b.0 a.1 b.1 group.0 left_1).1 in
        let round = number_at-takes_8 b.1 c left_2 ec in
        let left_3 : IsBytes c.1.rest = (Takes-bytes (to_be_bytes w64 c.0) b.1 c.1 round.0 left_2).1 in
        let stage = number_at-takes_1 c.1 d left_3 ed in
        let left_4 : IsBytes d.1.rest = (Takes-bytes (d.0 ∷ []) c.1 d.1 stage.0 left_3).1 in
        let sender = number_at-takes_1 d.1 f left_4 ef in
        let view = bytes_at-takes 32 f.1 g eg in
        let last = Takes-append (f.0 ∷ []) g.0 d.1 f.1 g.1 sender.0 view.0 in
        let last_3 = Takes-append (d.0 ∷ []) ((f.0 ∷ []) ++ g.0) c.1 d.1 g.1 stage.0 last in
        let last_4 = Takes-append (to_be_bytes w64 c.0) ((d.0 ∷ []) ++ ((f.0 ∷ []) ++ g.0)) b.1 c.1 g.1 round.0 last_3 in
        let last_5 = Takes-append b.0 (to_be_bytes w64 c.0 ++ ((d.0 ∷ []) ++ ((f.0 ∷ []) ++ g.0))) a.1 b.1 g.1 group.0 last_4 in (
          Takes-append (a.0 ∷ []) (b.0 ++ (to_be_bytes w64 c.0 ++ ((d.0 ∷ []) ++ ((f.0 ∷ []) ++ g.0)))) r a.1 g.1 version.0 last_5,
          record
              { group_long = group.1; round_small = round.1; view_long = view.1 },
        )

header-again : (h : Header) (place : ℕ) (rest : List ℕ) → HasWidths h
    → header_at (reading_at place (header_text h ++ rest)) ≡ Ok (h, reading_at (place + length (header_text h)) rest)
unfolding header_at
header-again h place rest fits =
    let told : ℕ → Result (Header × Reading) Short = λ k. Ok (h, reading_at k rest) in
    let round : List ℕ = to_be_bytes w64 h.round in
    let last : List ℕ = h.stage ∷ (h.sender ∷ h.view) in
    let text : (h.group ++ (round ++ last)) ++ rest ≡ h.group ++ (round ++ (last ++ rest)) = append_assoc h.group (round ++ last) rest
    ∙ ap (λ (t : List ℕ). h.group ++ t) (append_assoc round last rest) in
    let e0 = number_at-again_1 h.version place (h.group ++ (round ++ (last ++ rest))) in
    let e1 = bytes_at-again 32 h.group (round ++ (last ++ rest)) (place + 1) fits.group_long in
    let e2 = number_at-again_8 h.round (place + 1 + 32) (last ++ rest) fits.round_small in
    let e3 = number_at-again_1 h.stage (place + 1 + 32 + 8) (h.sender ∷ (h.view ++ rest)) in
    let e4 = number_at-again_1 h.sender (place + 1 + 32 + 8 + 1) (h.view ++ rest) in
    let e5 = bytes_at-again 32 h.view rest (place + 1 + 32 + 8 + 1 + 1) fits.view_long in
    let ends : place + 1 + 32 + 8 + 1 + 1 + 32 ≡ place + length (header_text h) = omega
    (arith, length-append h.group (round ++ last), length-append round last, fits.group_long, fits.view_long) in
    rw (text, e0, e1, e2, e3, e4, e5) (ap told ends)

-- ---- kinds

-- the number of a form's kind
abbrev form_number : BodyForm → ℕ
form_number OfKeys = 1
form_number (OfSubmit n) = 2
form_number (OfShuffled count n) = 3
form_number OfAbort = 4
form_number OfGo = 5
form_number (OfReveal count) = 6
form_number (OfDispute count) = 7
form_number (OfPads count) = 8
form_number OfCheck = 9
form_number (OfConfirm count) = 10
form_number (OfDiffer count) = 11

only-number : (number kind : ℕ) (form f : BodyForm) → form_number form ≡ number → only number form kind ≡ Some f → kind ≡ form_number f
only-number number kind form f is e =
    elim (chosen (kind == number) (Some form) None (Some f) e) [
      | inl here ↦
          let same : form ≡ f = (let e : Some form ≡ Some f = here.1 in cc) in
          eqb-true kind number here.0 ∙ sym is ∙ ap form_number same
      | inr next ↦ absurd (let e : None ≡ Some f = next.1 in cc)
    ]

either-number : (number other_number kind : ℕ) (form other f : BodyForm) → form_number form ≡ number → form_number other ≡ other_number
    → either number form other_number other kind ≡ Some f → kind ≡ form_number f
either-number number other_number kind form other f is other_is e =
    elim (chosen (kind == number) (Some form) (only other_number other kind) (Some f) e) [
      | inl here ↦
          let same : form ≡ f = (let e : Some form ≡ Some f = here.1 in cc) in
          eqb-true kind number here.0 ∙ sym is ∙ ap form_number same
      | inr next ↦ only-number other_number kind other f other_is next.1
    ]

in-number : (shape : Shape) (before : ℕ) (stage : StageKind) (kind : ℕ) (f : BodyForm) → form_in shape before stage kind ≡ Some f
    → kind ≡ form_number f
in-number shape before AtKeys kind f e = only-number 1 kind OfKeys f refl e
in-number shape before (AtSubmit shuffle) kind f e = only-number 2 kind (OfSubmit (level shape.members shuffle 0)) f refl e
in-number shape before (AtShuffle shuffle k) kind f e = either-number 3 4 kind (OfShuffled shape.members (level shape.members shuffle k))
    OfAbort f refl refl e
in-number shape before (AtGo shuffle) kind f e = only-number 5 kind OfGo f refl e
in-number shape before (AtFinal shuffle) kind f e = either-number 6 7 kind (OfReveal shape.members) (OfDispute before) f refl refl e
in-number shape before AtPad kind f e = only-number 8 kind (OfPads shape.members) f refl e
in-number shape before AtCheck kind f e = only-number 9 kind OfCheck f refl e
in-number shape before AtConfirm kind f e = either-number 10 11 kind (OfConfirm shape.members) (OfDiffer before) f refl refl e

of-number : (shape : Shape) (before : ℕ) (o : Option StageKind) (kind : ℕ) (f : BodyForm) → form_of shape before o kind ≡ Some f
    → kind ≡ form_number f
of-number shape before None kind f e = absurd cc
of-number shape before (Some stage) kind f e = in-number shape before stage kind f e

body_form-number : (shape : Shape) (stage kind : ℕ) (f : BodyForm) → body_form shape stage kind ≡ Some f → kind ≡ form_number f
unfolding body_form
body_form-number shape stage kind f e = of-number shape (slots_before shape stage) (kind_of_stage shape stage) kind f e

fits-number : (form : BodyForm) (body : Body) → Fits form body → kind_number body ≡ form_number form
fits-number OfKeys (Keys keys) fits = refl
fits-number (OfSubmit n) (Submit ciphertext) fits = refl
fits-number (OfShuffled count n) (Shuffled list) fits = refl
fits-number OfAbort Abort fits = refl
fits-number OfGo (Go vote) fits = refl
fits-number (OfReveal count) (Reveal votes seed) fits = refl
fits-number (OfDispute count) (Dispute posts seed opening) fits = refl
fits-number (OfPads count) (Pads pads) fits = refl
fits-number OfCheck (Check vote) fits = refl
fits-number (OfConfirm count) (Confirm votes) fits = refl
fits-number (OfDiffer count) (Differ posts) fits = refl
fits-number _ _ fits = absurd fits

-- ---- the first 76 bytes

abbrev IsHead : Shape → Reading → (Header × BodyForm) × Reading → Type 0
IsHead shape r x = Takes (header_text x.0.0 ++ (form_number x.0.1 ∷ [])) r x.1 × IsHeader shape x.0.0
    × (body_form shape x.0.0.stage (form_number x.0.1) ≡ Some x.0.1)

head-takes : (shape : Shape) (r : Reading) (x : (Header × BodyForm) × Reading) → IsBytes r.rest → head_at shape r ≡ Ok x → IsHead shape r x
head-takes shape r x bytes e =
    let p = head-parts shape r x e in
    subst (IsHead shape r) p.whole
    (parts shape r p.header p.kind p.form bytes p.header_read p.kind_read p.version_is p.slot_is p.form_is)
  where
    parts : (shape : Shape) (r : Reading) (h : Header × Reading) (k : ℕ × Reading) (form : BodyForm) → IsBytes r.rest → header_at r ≡ Ok h
        → number_at w8 h.1 ≡ Ok k → (h.0.version == shape.version) ≡ true → is_slot shape h.0.stage h.0.sender ≡ true
        → body_form shape h.0.stage k.0 ≡ Some form → IsHead shape r ((h.0, form), k.1)
    parts shape r h k form bytes eh ek version slot has =
        let header = header-takes r h bytes eh in
        let left : IsBytes h.1.rest = (Takes-bytes (header_text h.0) r h.1 header.0 bytes).1 in
        let kind = number_at-takes_1 h.1 k left ek in
        let number = body_form-number shape h.0.stage k.0 form has in
        let spelled = Takes-append (header_text h.0) (k.0 ∷ []) r h.1 k.1 header.0 kind.0 in (
          subst (λ (m : ℕ). Takes (header_text h.0 ++ (m ∷ [])) r k.1) number spelled,
          record {
            version_is = eqb-true h.0.version shape.version version;
            group_long = header.1.group_long;
            round_small =
                header.1.round_small;
            slot_is = slot;
            view_long = header.1.view_long;
          },
          subst (λ (m : ℕ). body_form shape h.0.stage m ≡ Some form) number has,
        )

head-again : (shape : Shape) (h : Header) (kind : ℕ) (form : BodyForm) (place : ℕ) (rest : List ℕ) → IsHeader shape h
    → body_form shape h.stage kind ≡ Some form → head_at shape (reading_at place (header_text h ++ (kind ∷ rest))) ≡ Ok
    ((h, form), reading_at (place + length (header_text h) + 1) rest)
unfolding head_at
head-again shape h kind form place rest is has =
    let header = header-again h place (kind ∷ rest) (record {
      group_long = is.group_long;
      round_small = is.round_small;
      view_long =
          is.view_long;
    }) in
    let version : (h.version == shape.version) ≡ true = eq-eqb h.version shape.version is.version_is in
    let number = number_at-again_1 kind (place + length (header_text h)) rest in
    rw (header, version, is.slot_is, number, has) refl

-- ---- contents

nothing_left : (rest : List ℕ) → nat_lt 0 (length rest) ≡ false → rest ≡ []
nothing_left [] e = refl
nothing_left (b ∷ rest) e = let le = ltb-false 0 (length (b ∷ rest)) e in absurd (omega arith)

pub content-is_spelled : (shape : Shape) (bytes : List ℕ) (c : Content) → IsBytes bytes → content_read shape bytes ≡ Ok c
    → (bytes ≡ content_text c) × OfGrammar shape c
content-is_spelled shape bytes c are e =
    let p = content-parts shape bytes c e in
    subst (λ (c : Content). (bytes ≡ content_text c) × OfGrammar shape c) p.whole
    (parts shape bytes p.head p.body are p.head_read p.body_read (nothing_left p.body.1.rest p.ended))
  where
    parts : (shape : Shape) (bytes : List ℕ) (h : (Header × BodyForm) × Reading) (b : Body × Reading) → IsBytes bytes
        → head_at shape (reading_of bytes) ≡ Ok h → body_at h.0.1 h.1 ≡ Ok b → b.1.rest ≡ []
        → (bytes ≡ content_text (record { header = h.0.0; body = b.0 })) × OfGrammar shape (record { header = h.0.0; body = b.0 })
    parts shape bytes h b are eh eb ended =
        let head = head-takes shape (reading_of bytes) h are eh in
        let front : List ℕ = header_text h.0.0 ++ (form_number h.0.1 ∷ []) in
        let left : IsBytes h.1.rest = (Takes-bytes front (reading_of bytes) h.1 head.0 are).1 in
        let body = body-takes h.0.1 h.1 b left eb in
        let number = fits-number h.0.1 b.0 body.1 in
        let whole = Takes-append front (body_text b.0) (reading_of bytes) h.1 b.1 head.0 body.0 in
        let text : bytes ≡ front ++ body_text b.0 = whole.text_is ∙ ap (λ (t : List ℕ). (front ++ body_text b.0) ++ t) ended
        ∙ append-nil (front ++ body_text b.0) in (
          text ∙ append_assoc (header_text h.0.0) (form_number h.0.1 ∷ []) (body_text b.0)
              ∙ ap (λ (m : ℕ). header_text h.0.0 ++ (m ∷ body_text b.0)) (sym number),
          (head.1, (h.0.1, subst (λ (m : ℕ). body_form shape h.0.0.stage m ≡ Some h.0.1) (sym number) head.2, body.1)),
        )

pub length-header_text : (shape : Shape) (h : Header) → IsHeader shape h → length (header_text h) ≡ 75
length-header_text shape h is =
    let round : List ℕ = to_be_bytes w64 h.round in
    let last : List ℕ = h.stage ∷ (h.sender ∷ h.view) in
    let group = is.group_long in
    let view = is.view_long in
    omega (arith, length-append h.group (round ++ last), length-append round last)

pub content-is_read : (shape : Shape) (c : Content) → OfGrammar shape c → content_read shape (content_text c) ≡ Ok c
unfolding content_read
content-is_read shape c is =
    let text : List ℕ = body_text c.body in
    let long : 76 ≤ length (content_text c) = omega (
      arith,
      length-append (header_text c.header) (kind_number c.body ∷ text),
      length-header_text shape c.header is.0,
    ) in
    let whole : nat_lt (length (content_text c)) 76 ≡ false = le-ltb (length (content_text c)) 76 long in
    let place : ℕ = 0 + length (header_text c.header) + 1 in
    let head = head-again shape c.header (kind_number c.body) is.1.0 0 text is.0 is.1.1 in
    let all : text ++ [] ≡ text = append-nil text in
    let body : body_at is.1.0 (reading_at place text) ≡ Ok (c.body, reading_at (place + length text) []) = subst
    (λ (t : List ℕ). body_at is.1.0 (reading_at place t) ≡ Ok (c.body, reading_at (place + length text) [])) all
    (body-again is.1.0 c.body place [] is.1.2) in
    rw (whole, head, body) refl

-- ---- the header alone

header_ok : (bytes : List ℕ) (y : Header × Reading) (h : Header) → header_at (reading_of bytes) ≡ Ok y → y.0 ≡ h → header_of bytes ≡ Ok h
header_ok bytes y h e same =
    let told : Header → Result Header Short = λ h. Ok h in
    rw e (ap told same)

-- bytes have a header exactly where they begin with its spelling
pub header_of-begins : (bytes : List ℕ) (h : Header) → IsBytes bytes → header_of bytes ≡ Ok h → BeginsWith h bytes
header_of-begins bytes h are e =
    let y = value_ok (header_at (reading_of bytes)) h e in
    let read = header-takes (reading_of bytes) y.0 are y.1 in
    subst (λ (h : Header). BeginsWith h bytes) y.2 (record { widths = read.1; rest = y.0.1.rest; spelled = read.0.text_is })

pub begins-header_of : (bytes : List ℕ) (h : Header) → BeginsWith h bytes → header_of bytes ≡ Ok h
begins-header_of bytes h begins =
    ap header_of begins.spelled ∙ header_ok (header_text h ++ begins.rest) (h, reading_at (0 + length (header_text h)) begins.rest) h
    (header-again h 0 begins.rest begins.widths) refl

pub content-header : (shape : Shape) (bytes : List ℕ) (c : Content) → content_read shape bytes ≡ Ok c → header_of bytes ≡ Ok c.header
content-header shape bytes c e =
    let p = content-parts shape bytes c e in
    let h = head-parts shape (reading_of bytes) p.head p.head_read in
    let same : h.header.0 ≡ p.head.0.0 = ap (λ (x : (Header × BodyForm) × Reading). x.0.0) h.whole in
    header_ok bytes h.header c.header h.header_read (same ∙ ap (λ (c : Content). c.header) p.whole)

-- what a decoder answers is of the grammar, and spelled so
pub is_found : (shape : Shape) (bytes : List ℕ) (r : Result Content DecodeRefusal) → IsBytes bytes
    → Gives fault (λ x. x) r (content_read shape bytes)
    → IfOk r (λ c. OfGrammar shape c × (bytes ≡ content_text c))
is_found shape bytes (Ok c) are given = let s = content-is_spelled shape bytes c are given in (s.1, s.0)
is_found shape bytes (Err refusal) are given = tt
