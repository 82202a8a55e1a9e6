-- A header is read exactly where there are 75 bytes.
use Rattle.std.proofs.Common.{◌≡◌, ℕ, ◌+◌, ◌≤◌, ltb, List, length, take, drop, Result, Ok, Err, refl, sym, ap, ◌∙◌, arith}
use Rattle.std.specs.Prelude.{IsOk}
use Rattle.std.specs.Int.{Width, w8, w64, byte_len, from_be_bytes}
use Rattle.std.proofs.lemmas.Bool.{ltb-false}
use Rattle.std.proofs.lemmas.List.{length-take, length-drop}
use Rattle.wire_core.specs.declared.cursor.Short.{Short}
use Rattle.wire_core.specs.Reading.{Reading, Reads, reading_of, advanced, bytes_at, number_at}
use Rattle.wire_core.proofs.Readings.{bind_ok, guard_ok, bytes_at-enough}
use Rattle.phase_message.specs.declared.header.Header.{Header}
use Rattle.phase_message.specs.Header.{header_at, header_of}
use Rattle.phase_message.proofs.Parts.{given, value_ok, header-parts}

-- n bytes that were read were there
pub bytes_at-parts : (n : ℕ) (r : Reading) (x : List ℕ × Reading) → bytes_at n r ≡ Ok x → (n ≤ length r.rest) × (take n r.rest ≡ x.0)
    × (advanced n r ≡ x.1)
bytes_at-parts n r x e =
    let g = guard_ok (ltb (length r.rest) n) (record { at = r.place; need = n; have = length r.rest }) (take n r.rest, advanced n r) x e in
    (ltb-false _ _ g.0, ap (λ (p : List ℕ × Reading). p.0) g.1, ap (λ (p : List ℕ × Reading). p.1) g.1)

pub bytes_at-length : (n : ℕ) (r : Reading) (x : List ℕ × Reading) → bytes_at n r ≡ Ok x → length x.0 ≡ n
bytes_at-length n r x e =
    let p = bytes_at-parts n r x e in
    let front : length (take n r.rest) ≡ n = omega (arith, length-take n r.rest, p.0) in
    sym (ap length p.1) ∙ front

-- how many bytes a read of a number leaves
number_at-length : (w : Width) (r : Reading) (x : ℕ × Reading) → number_at w r ≡ Ok x → byte_len w + length x.1.rest ≡ length r.rest
number_at-length w r x e =
    let b = bind_ok (bytes_at (byte_len w) r) (λ front. Ok (from_be_bytes w front.0, front.1)) x e in
    let p = bytes_at-parts (byte_len w) r b.0 b.1 in
    let made : ℕ × Reading = (from_be_bytes w b.0.0, b.0.1) in
    let same : b.0.1 ≡ x.1 = ap (λ (p : ℕ × Reading). p.1) (given made x b.2) in
    let left : length (drop (byte_len w) r.rest) ≡ length x.1.rest = ap (λ (q : Reading). length q.rest) (p.2 ∙ same) in
    omega (arith, length-drop (byte_len w) r.rest, left, p.0)

bytes_at-rest : (n : ℕ) (r : Reading) (x : List ℕ × Reading) → bytes_at n r ≡ Ok x → n + length x.1.rest ≡ length r.rest
bytes_at-rest n r x e =
    let p = bytes_at-parts n r x e in
    let left : length (drop n r.rest) ≡ length x.1.rest = ap (λ (q : Reading). length q.rest) p.2 in
    omega (arith, length-drop n r.rest, left, p.0)

-- a header that was read took 75 bytes
header_takes : (r : Reading) (x : Header × Reading) → header_at r ≡ Ok x → 75 + length x.1.rest ≡ length r.rest
header_takes r x e =
    let p = header-parts r x e in
    let left : length p.view.1.rest ≡ length x.1.rest = ap (λ (q : Header × Reading). length q.1.rest) p.whole in
    omega (
      arith,
      number_at-length w8 r p.version p.version_read,
      bytes_at-rest 32 p.version.1 p.group p.group_read,
      number_at-length w64 p.group.1 p.round p.round_read,
      number_at-length w8 p.round.1 p.stage p.stage_read,
      number_at-length w8 p.stage.1 p.sender p.sender_read,
      bytes_at-rest 32 p.sender.1 p.view p.view_read,
      left,
    )

number_at-long : (w : Width) (r : Reading) → byte_len w ≤ length r.rest
    → number_at w r ≡ Ok (from_be_bytes w (take (byte_len w) r.rest), advanced (byte_len w) r)
number_at-long w r le = rw (bytes_at-enough (byte_len w) r le) refl

-- 75 bytes have a header
header_long : (r : Reading) → 75 ≤ length r.rest → (x : Header × Reading) × (header_at r ≡ Ok x)
unfolding header_at
header_long r le =
    let r1 = advanced 1 r in
    let r2 = advanced 32 r1 in
    let r3 = advanced 8 r2 in
    let r4 = advanced 1 r3 in
    let r5 = advanced 1 r4 in
    let l1 = length-drop 1 r.rest in
    let l2 = length-drop 32 r1.rest in
    let l3 = length-drop 8 r2.rest in
    let l4 = length-drop 1 r3.rest in
    let l5 = length-drop 1 r4.rest in
    let e0 = number_at-long w8 r (omega arith) in
    let e1 = bytes_at-enough 32 r1 (omega arith) in
    let e2 = number_at-long w64 r2 (omega arith) in
    let e3 = number_at-long w8 r3 (omega arith) in
    let e4 = number_at-long w8 r4 (omega arith) in
    let e5 = bytes_at-enough 32 r5 (omega arith) in (
      (
        record {
          version = from_be_bytes w8 (take 1 r.rest);
          group = take 32 r1.rest;
          round = from_be_bytes w64 (take 8 r2.rest);
          stage =
              from_be_bytes w8 (take 1 r3.rest);
          sender = from_be_bytes w8 (take 1 r4.rest);
          view = take 32 r5.rest;
        },
        advanced 32 r5,
      ),
      rw (e0, e1, e2, e3, e4, e5) refl,
    )

pub header_ok-length : (content : List ℕ) → IsOk (header_of content) → 75 ≤ length content
header_ok-length content ok = ok_length content (header_of content) refl ok
  where
    ok_length : (content : List ℕ) (read : Result Header Short) → header_of content ≡ read → IsOk read → 75 ≤ length content
    ok_length content (Ok h) e ok = let y = value_ok (header_at (reading_of content)) h e in omega
        (arith, header_takes (reading_of content) y.0 y.1)
    ok_length content (Err d) e ok = absurd cc

pub length-header_ok : (content : List ℕ) → 75 ≤ length content → IsOk (header_of content)
length-header_ok content le = let x = header_long (reading_of content) le in rw x.1 refl

-- what the fields give at the front of a content is its header
pub is_header : (content : List ℕ) (front : Reading) (r : Result Header Short) (after : Reading) → front ≡ reading_of content
    → Reads (λ x. x) r after (header_at front) → r ≡ header_of content
is_header content front (Ok h) after e reads = rw (← e, reads) refl
is_header content front (Err d) after e reads = rw (← e, reads) refl
