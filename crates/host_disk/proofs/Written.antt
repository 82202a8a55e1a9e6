-- Bytes with a piece written over them.
use Rattle.std.proofs.Common.{◌≡◌, ℕ, ◌+◌, ◌-◌, ◌≤◌, ◌<◌, ◌⊎◌, List, [], ◌∷◌, ◌++◌, length, take, drop, refl, sym, ap, ◌∙◌, inl, inr, arith, append_assoc, length-append}
use Rattle.std.specs.Prelude.{replicate}
use Rattle.std.proofs.lemmas.Bool.{cases_lt}
use Rattle.std.proofs.lemmas.List.{append-nil, drop_all, drop-drop, length-replicate, length-take-le, replicate-append-replicate, take_at, take-append-le}
use Rattle.std.proofs.Math.Seq.{drop-append-add}
use Rattle.crash_disk.specs.Disk.{overwritten}
use Rattle.host_disk.specs.Placed.{FileState, filled_up, with_written, written_over}

-- the bytes before the place, the piece, and the bytes behind it
unfoldable pub laid : List ℕ → ℕ → List ℕ → List ℕ
laid bytes at piece = take at (filled_up bytes at) ++ piece ++ drop (at + length piece) bytes

-- more zeros than are wanted before the place make no difference, if they end with the piece
pub laid-is : (bytes : List ℕ) (at k : ℕ) (piece : List ℕ) → at ≤ length bytes + k → (k ≡ 0) ⊎ (length bytes + k ≤ at + length piece)
    → overwritten (bytes ++ replicate {A = ℕ} k 0) at piece ≡ laid bytes at piece
unfolding laid overwritten
laid-is bytes at k piece enough ends =
    rw (front, back ends) refl
  where
    more : replicate {A = ℕ} k 0 ≡ replicate (at - length bytes) 0 ++ replicate (k - (at - length bytes)) 0
    more =
        let e : k ≡ (at - length bytes) + (k - (at - length bytes)) = omega (arith, enough) in
        let zeros : ℕ → List ℕ = λ n. replicate n 0 in
        ap zeros e ∙ sym (replicate-append-replicate (at - length bytes) (k - (at - length bytes)) 0)

    front : take at (bytes ++ replicate k 0) ≡ take at (filled_up bytes at)
    front =
        let size : length (filled_up bytes at) ≡ length bytes + (at - length bytes) =
        length-append bytes (replicate (at - length bytes) 0) ∙ ap (λ (n : ℕ). length bytes + n) (length-replicate (at - length bytes) 0) in
        ap (λ (l : List ℕ). take at (bytes ++ l)) more
        ∙ ap (take at) (sym (append_assoc bytes (replicate (at - length bytes) 0) (replicate (k - (at - length bytes)) 0)))
        ∙ take-append-le at (filled_up bytes at) (replicate (k - (at - length bytes)) 0) (omega (arith, size))

    back : (k ≡ 0) ⊎ (length bytes + k ≤ at + length piece) → drop (at + length piece) (bytes ++ replicate k 0) ≡ drop (at + length piece) bytes
    back (inl none) = ap (λ (n : ℕ). drop (at + length piece) (bytes ++ replicate n 0)) none ∙ ap (drop (at + length piece)) (append-nil bytes)
    back (inr short) =
        let size : length (bytes ++ replicate k 0) ≡ length bytes + k =
        length-append bytes (replicate k 0) ∙ ap (λ (n : ℕ). length bytes + n) (length-replicate k 0) in
        drop_all (at + length piece) (bytes ++ replicate k 0) (omega (arith, short, size))
        ∙ sym (drop_all (at + length piece) bytes (omega (arith, short)))

-- a piece that has a byte
pub written-laid : (bytes : List ℕ) (at byte : ℕ) (piece : List ℕ) → written_over bytes at (byte ∷ piece) ≡ laid bytes at (byte ∷ piece)
unfolding written_over
written-laid bytes at byte piece = laid-is bytes at (at - length bytes) (byte ∷ piece) (omega arith) (ends (cases_lt (length bytes) at))
  where
    ends : (length bytes < at) ⊎ (at ≤ length bytes)
        → ((at - length bytes) ≡ 0) ⊎ (length bytes + (at - length bytes) ≤ at + length (byte ∷ piece))
    ends (inl past) = inr (omega (arith, past))
    ends (inr within) = inl (omega (arith, within))

-- a piece, and then another behind it
pub laid-append : (bytes : List ℕ) (at : ℕ) (piece more : List ℕ) → laid (laid bytes at piece) (at + length piece) more ≡ laid bytes at (piece ++ more)
unfolding laid
laid-append bytes at piece more =
    let front : List ℕ = take at (filled_up bytes at) ++ piece in
    let back : List ℕ = drop (at + length piece) bytes in
    let place : ℕ = at + length piece in
    let all : List ℕ = front ++ back in
    let filled : length (filled_up bytes at) ≡ length bytes + (at - length bytes) =
    length-append bytes (replicate (at - length bytes) 0) ∙ ap (λ (n : ℕ). length bytes + n) (length-replicate (at - length bytes) 0) in
    let size : length front ≡ place =
    length-append (take at (filled_up bytes at)) piece
    ∙ ap (λ (n : ℕ). n + length piece) (length-take-le at (filled_up bytes at) (omega (arith, filled))) in
    let before : take place (filled_up all place) ≡ front =
    take-append-le place all (replicate (place - length all) 0) (omega (arith, size, length-append front back)) ∙ take_at front back place size in
    let behind : drop (place + length more) all ≡ drop (at + length (piece ++ more)) bytes =
    ap (λ (n : ℕ). drop (n + length more) all) (sym size)
    ∙ drop-append-add front back (length more)
    ∙ drop-drop (length more) place bytes
    ∙ ap (λ (n : ℕ). drop n bytes) (omega (arith, length-append piece more)) in
    ap (λ (l : List ℕ). l ++ more ++ drop (place + length more) all) before
    ∙ ap (λ (l : List ℕ). front ++ more ++ l) behind
    ∙ ap (λ (l : List ℕ). l ++ drop (at + length (piece ++ more)) bytes) (append_assoc (take at (filled_up bytes at)) piece more)

pub written-append : (bytes : List ℕ) (at : ℕ) (piece more : List ℕ)
    → written_over (written_over bytes at piece) (at + length piece) more ≡ written_over bytes at (piece ++ more)
unfolding written_over
written-append bytes at [] more =
    let same : written_over bytes at [] ≡ bytes = refl in
    let place : at + length {A = ℕ} [] ≡ at = omega arith in
    ap (λ (l : List ℕ). written_over l (at + length {A = ℕ} []) more) same ∙ ap (λ (n : ℕ). written_over bytes n more) place
written-append bytes at (byte ∷ piece) [] = ap (λ (l : List ℕ). written_over bytes at l) (sym (append-nil (byte ∷ piece)))
written-append bytes at (byte ∷ piece) (next ∷ more) =
    ap (λ (l : List ℕ). written_over l (at + length (byte ∷ piece)) (next ∷ more)) (written-laid bytes at byte piece)
    ∙ written-laid (laid bytes at (byte ∷ piece)) (at + length (byte ∷ piece)) next more
    ∙ laid-append bytes at (byte ∷ piece) (next ∷ more)
    ∙ sym (written-laid bytes at byte (piece ++ next ∷ more))

-- a file to which a piece was written, and then another
pub with_written-append : (piece more : List ℕ) (file : FileState) → with_written more (with_written piece file) ≡ with_written (piece ++ more) file
with_written-append piece more file =
    let made : List ℕ → ℕ → FileState = λ bytes place. record { bytes = bytes; place = place; syncs = file.syncs } in
    let place : file.place + length piece + length more ≡ file.place + length (piece ++ more) = omega (arith, length-append piece more) in
    ap (λ (l : List ℕ). made l (file.place + length piece + length more)) (written-append file.bytes file.place piece more)
    ∙ ap (λ (n : ℕ). made (written_over file.bytes file.place (piece ++ more)) n) place

-- a file to which nothing was written
pub with_written-nothing : (file : FileState) → with_written [] file ≡ file
unfolding written_over
with_written-nothing file =
    let made : ℕ → FileState = λ place. record { bytes = file.bytes; place = place; syncs = file.syncs } in
    let place : file.place + length {A = ℕ} [] ≡ file.place = omega arith in
    ap made place

-- a piece of no bytes
pub written-none : (bytes : List ℕ) (at : ℕ) (piece : List ℕ) → length piece ≡ 0 → written_over bytes at piece ≡ bytes
unfolding written_over
written-none bytes at [] none = refl
written-none bytes at (byte ∷ piece) none = absurd (omega (arith, none))

-- a piece in bytes that were filled up with zeros to its end, of which the whole is told with more behind it
pub written-whole : (bytes filled now rest : List ℕ) (at size : ℕ) (piece : List ℕ) → 0 < length piece
    → filled ≡ bytes ++ replicate (at + length piece - length bytes) 0 → now ≡ overwritten filled at piece → length now ≡ size
    → take size (now ++ rest) ≡ written_over bytes at piece
written-whole bytes filled now rest at size [] some is over whole = absurd (omega (arith, some))
written-whole bytes filled now rest at size (byte ∷ piece) some is over whole =
    take_at now rest size whole ∙ over ∙ ap (λ (l : List ℕ). overwritten l at (byte ∷ piece)) is
    ∙ laid-is bytes at (at + length (byte ∷ piece) - length bytes) (byte ∷ piece) (omega arith) (ends (cases_lt (length bytes) (at + length (byte ∷ piece))))
    ∙ sym (written-laid bytes at byte piece)
  where
    ends : (length bytes < at + length (byte ∷ piece)) ⊎ (at + length (byte ∷ piece) ≤ length bytes)
        → ((at + length (byte ∷ piece) - length bytes) ≡ 0) ⊎ (length bytes + (at + length (byte ∷ piece) - length bytes) ≤ at + length (byte ∷ piece))
    ends (inl past) = inr (omega (arith, past))
    ends (inr within) = inl (omega (arith, within))
