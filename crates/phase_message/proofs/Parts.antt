-- What a header, the head of a content and a content were read from, part by part.
use Rattle.std.proofs.Common.{◌≡◌, ℕ, true, false, not, List, length, refl}
use Rattle.std.specs.Prelude.{Option, Some, None, Result, Ok, Err, nat_lt, ◌==◌, ok_or}
use Rattle.std.specs.Int.{w8, w64}
use Rattle.std.proofs.lemmas.Bool.{not-false}
use Rattle.wire_core.specs.Reading.{Reading, reading_of, ◌>>=◌, fault_as, unless, bytes_at, number_at}
use Rattle.wire_core.proofs.Readings.{bind_ok, fault_as_ok, guard_ok}
use Rattle.phase_message.specs.declared.header.Header.{Header}
use Rattle.phase_message.specs.declared.form.BodyForm.{BodyForm}
use Rattle.phase_message.specs.declared.content.Body.{Body}
use Rattle.phase_message.specs.declared.content.Content.{Content}
use Rattle.phase_message.specs.declared.offence.Offence.{Offence}
use Rattle.phase_message.specs.Shape.{Shape}
use Rattle.phase_message.specs.Stages.{is_slot}
use Rattle.phase_message.specs.Header.{header_at}
use Rattle.phase_message.specs.Body.{body_form}
use Rattle.phase_message.specs.Offence.{offence, cut, head_at, body_at, content_read}

-- two values that a reading gave are one
pub given : {A E : Type 0} (x y : A) → (let told : A → Result A E = λ z. Ok z in told x ≡ told y) → x ≡ y
given x y e = cc

-- a value without where its reading stands then
pub value_ok : {A E : Type 0} (read : Result (A × Reading) E) (x : A) → (read >>= λ y. Ok y.0) ≡ Ok x → (y : A × Reading) × (read ≡ Ok y)
    × (y.0 ≡ x)
value_ok (Ok y) x e = (y, refl, cc)
value_ok (Err d) x e = absurd cc

-- ---- headers

-- the six fields of a header, each with the reading after it
pub record HeaderParts (r : Reading) (x : Header × Reading) : Type 0 where
  pub version : ℕ × Reading
  pub group : List ℕ × Reading
  pub round : ℕ × Reading
  pub stage : ℕ × Reading
  pub sender : ℕ × Reading
  pub view : List ℕ × Reading
  pub version_read : number_at w8 r ≡ Ok version
  pub group_read : bytes_at 32 version.1 ≡ Ok group
  pub round_read : number_at w64 group.1 ≡ Ok round
  pub stage_read : number_at w8 round.1 ≡ Ok stage
  pub sender_read : number_at w8 stage.1 ≡ Ok sender
  pub view_read : bytes_at 32 sender.1 ≡ Ok view
  pub whole : (
    record { version = version.0; group = group.0; round = round.0; stage = stage.0; sender = sender.0; view = view.0 },
    view.1,
  ) ≡ x

pub header-parts : (r : Reading) (x : Header × Reading) → header_at r ≡ Ok x → HeaderParts r x
unfolding header_at
header-parts r x e =
    let a = bind_ok (number_at w8 r) (λ version. bytes_at 32 version.1 >>= λ group. number_at w64 group.1 >>= λ round. number_at w8 round.1
    >>= λ stage. number_at w8 stage.1 >>= λ sender. bytes_at 32 sender.1 >>= λ view. Ok
    (record { version = version.0; group = group.0; round = round.0; stage = stage.0; sender = sender.0; view = view.0 }, view.1)) x e
    in
    let b = bind_ok (bytes_at 32 a.0.1) (λ group. number_at w64 group.1 >>= λ round. number_at w8 round.1 >>= λ stage. number_at w8 stage.1
    >>= λ sender. bytes_at 32 sender.1 >>= λ view. Ok (
      record
          { version = a.0.0; group = group.0; round = round.0; stage = stage.0; sender = sender.0; view = view.0 },
      view.1,
    )) x a.2 in
    let c = bind_ok (number_at w64 b.0.1) (λ round. number_at w8 round.1 >>= λ stage. number_at w8 stage.1 >>= λ sender. bytes_at 32
    sender.1 >>= λ view. Ok (
      record {
        version = a.0.0;
        group = b.0.0;
        round = round.0;
        stage = stage.0;
        sender = sender.0;
        view = view.0;
      },
      view.1,
    )) x b.2 in
    let d = bind_ok (number_at w8 c.0.1) (λ stage. number_at w8 stage.1 >>= λ sender. bytes_at 32 sender.1 >>= λ view. Ok
    (record { version = a.0.0; group = b.0.0; round = c.0.0; stage = stage.0; sender = sender.0; view = view.0 }, view.1)) x c.2 in
    let f = bind_ok (number_at w8 d.0.1) (λ sender. bytes_at 32 sender.1 >>= λ view. Ok
    (record { version = a.0.0; group = b.0.0; round = c.0.0; stage = d.0.0; sender = sender.0; view = view.0 }, view.1)) x d.2 in
    let g = bind_ok (bytes_at 32 f.0.1) (λ view. Ok (
      record {
        version = a.0.0;
        group = b.0.0;
        round = c.0.0;
        stage = d.0.0;
        sender = f.0.0;
        view = view.0;
      },
      view.1,
    )) x f.2 in
    let made : Header × Reading = (
      record { version = a.0.0; group = b.0.0; round = c.0.0; stage = d.0.0; sender = f.0.0; view = g.0.0 },
      g.0.1,
    ) in
    record {
      version = a.0;
      group = b.0;
      round = c.0;
      stage = d.0;
      sender = f.0;
      view = g.0;
      version_read = a.1;
      group_read = b.1;
      round_read = c.1;
      stage_read = d.1;
      sender_read = f.1;
      view_read = g.1;
      whole = given made x g.2;
    }

-- ---- the first 76 bytes

-- the header and the number of the kind, each with the reading after it, and the form under that number
pub record HeadParts (shape : Shape) (r : Reading) (x : (Header × BodyForm) × Reading) : Type 0 where
  pub header : Header × Reading
  pub kind : ℕ × Reading
  pub form : BodyForm
  pub header_read : header_at r ≡ Ok header
  pub version_is : (header.0.version == shape.version) ≡ true
  pub slot_is : is_slot shape header.0.stage header.0.sender ≡ true
  pub kind_read : number_at w8 header.1 ≡ Ok kind
  pub form_is : body_form shape header.0.stage kind.0 ≡ Some form
  pub whole : ((header.0, form), kind.1) ≡ x

refused-some : {A : Type 0} (o : Option A) (d : Offence) (x : A) → ok_or o d ≡ Ok x → o ≡ Some x
refused-some None d x e = absurd cc
refused-some (Some y) d x e = cc

pub head-parts : (shape : Shape) (r : Reading) (x : (Header × BodyForm) × Reading) → head_at shape r ≡ Ok x → HeadParts shape r x
unfolding head_at
head-parts shape r x e =
    let h = bind_ok (fault_as cut (header_at r)) (λ header. unless (not (header.0.version == shape.version)) (offence 8 0) header.1 >>= λ
    version. unless (not (is_slot shape header.0.stage header.0.sender)) (offence 9 41) header.1 >>= λ slot. fault_as cut
    (number_at w8 header.1) >>= λ kind. ok_or (body_form shape header.0.stage kind.0) (offence 1 75) >>= λ form. Ok
    ((header.0, form), kind.1)) x e in
    let v = bind_ok (unless (not (h.0.0.version == shape.version)) (offence 8 0) h.0.1)
    (λ version. unless (not (is_slot shape h.0.0.stage h.0.0.sender)) (offence 9 41) h.0.1 >>= λ slot. fault_as cut (number_at w8 h.0.1)
    >>= λ kind. ok_or (body_form shape h.0.0.stage kind.0) (offence 1 75) >>= λ form. Ok ((h.0.0, form), kind.1)) x h.2 in
    let s = bind_ok (unless (not (is_slot shape h.0.0.stage h.0.0.sender)) (offence 9 41) h.0.1)
    (λ slot. fault_as cut (number_at w8 h.0.1) >>= λ kind. ok_or (body_form shape h.0.0.stage kind.0) (offence 1 75) >>= λ form. Ok
    ((h.0.0, form), kind.1)) x v.2 in
    let k = bind_ok (fault_as cut (number_at w8 h.0.1)) (λ kind. ok_or (body_form shape h.0.0.stage kind.0) (offence 1 75) >>= λ form. Ok
    ((h.0.0, form), kind.1)) x s.2 in
    let f = bind_ok (ok_or (body_form shape h.0.0.stage k.0.0) (offence 1 75)) (λ form. Ok ((h.0.0, form), k.0.1)) x k.2 in
    record {
      header = h.0;
      kind = k.0;
      form = f.0;
      header_read = fault_as_ok cut (header_at r) h.0 h.1;
      version_is = not-false _ (guard_ok (not (h.0.0.version == shape.version)) (offence 8 0) h.0.1 v.0 v.1).0;
      slot_is = not-false _ (guard_ok (not (is_slot shape h.0.0.stage h.0.0.sender)) (offence 9 41) h.0.1 s.0 s.1).0;
      kind_read = fault_as_ok cut (number_at w8 h.0.1) k.0 k.1;
      form_is = refused-some _ _ f.0 f.1;
      whole = given ((h.0.0, f.0), k.0.1) x f.2;
    }

-- ---- contents

-- the head and the body, each with the reading after it; nothing follows
pub record ContentParts (shape : Shape) (bytes : List ℕ) (c : Content) : Type 0 where
  pub head : (Header × BodyForm) × Reading
  pub body : Body × Reading
  pub head_read : head_at shape (reading_of bytes) ≡ Ok head
  pub body_read : body_at head.0.1 head.1 ≡ Ok body
  pub ended : nat_lt 0 (length body.1.rest) ≡ false
  pub whole : record { header = head.0.0; body = body.0 } ≡ c

pub content-parts : (shape : Shape) (bytes : List ℕ) (c : Content) → content_read shape bytes ≡ Ok c → ContentParts shape bytes c
unfolding content_read
content-parts shape bytes c e =
    let w = bind_ok (unless (nat_lt (length bytes) 76) (offence 7 (length bytes)) (reading_of bytes))
    (λ whole. head_at shape (reading_of bytes) >>= λ head. body_at head.0.1 head.1 >>= λ body. unless (nat_lt 0 (length body.1.rest))
    (offence 3 body.1.place) (record { header = head.0.0; body = body.0 })) c e in
    let h = bind_ok (head_at shape (reading_of bytes)) (λ head. body_at head.0.1 head.1 >>= λ body. unless (nat_lt 0 (length body.1.rest))
    (offence 3 body.1.place) (record { header = head.0.0; body = body.0 })) c w.2 in
    let b = bind_ok (body_at h.0.0.1 h.0.1) (λ body. unless (nat_lt 0 (length body.1.rest)) (offence 3 body.1.place)
    (record { header = h.0.0.0; body = body.0 })) c h.2 in
    let made : Content = record { header = h.0.0.0; body = b.0.0 } in
    let ended = guard_ok (nat_lt 0 (length b.0.1.rest)) (offence 3 b.0.1.place) made c b.2 in
    record {
      head = h.0;
      body = b.0;
      head_read = h.1;
      body_read = b.1;
      ended = ended.0;
      whole = ended.1;
    }
