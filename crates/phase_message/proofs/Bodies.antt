-- The same pair of laws for the body of each kind.
use Rattle.std.proofs.Common.{◌≡◌, ℕ, ◌+◌, List, ◌++◌, length, ap, sym, ◌∙◌, subst, arith, append_assoc, length-append, add-zero}
use Rattle.std.specs.Prelude.{Result, Ok}
use Rattle.std.specs.List.{flat_map, AllByRecursion}
use Rattle.wire_core.specs.Bytes.{IsBytes}
use Rattle.wire_core.specs.Reading.{Reading, reading_at, ◌>>=◌, repeated, Takes}
use Rattle.wire_core.proofs.Readings.{bind_ok, Takes-none, Takes-append, repeated-takes, repeated-again}
use Rattle.phase_message.specs.declared.form.ItemForm.TheVariants.{Entry, Post, Pad}
use Rattle.phase_message.specs.declared.form.BodyForm.{BodyForm}
use Rattle.phase_message.specs.declared.form.BodyForm.TheVariants.{Keys as OfKeys, Submit as OfSubmit, Shuffled as OfShuffled, Abort as OfAbort, Go as OfGo, Reveal as OfReveal, Dispute as OfDispute, Pads as OfPads, Check as OfCheck, Confirm as OfConfirm, Differ as OfDiffer}
use Rattle.phase_message.specs.declared.content.Body.{Body}
use Rattle.phase_message.specs.declared.content.Body.TheVariants.{Keys, Submit, Shuffled, Abort, Go, Reveal, Dispute, Pads, Check, Confirm, Differ}
use Rattle.phase_message.specs.declared.offence.Offence.{Offence}
use Rattle.phase_message.specs.Offence.{field_at, flag_at, key_at, item_at, items_at, held_in, body_at}
use Rattle.ring_poly.specs.PublicKey.{IsPublicKey}
use Rattle.phase_message.specs.Grammar.{prefixed, AreItems, body_text, Fits}
use Rattle.phase_message.proofs.Parts.{given}
use Rattle.phase_message.proofs.Spelled.{field-takes, field-again, flag-takes, flag-again, key-takes, key-again, item-takes, item-again, items-takes, items-again}

-- what a reading gave is spelled by a body that holds it, and the body fits
held-takes : {A : Type 0} (body : A → Body) (form : BodyForm) (read : Result (A × Reading) Offence) (r : Reading) (x : Body × Reading)
    → ((y : A × Reading) → read ≡ Ok y → Takes (body_text (body y.0)) r y.1 × Fits form (body y.0)) → held_in body read ≡ Ok x
    → Takes (body_text x.0) r x.1 × Fits form x.0
held-takes body form read r x each e =
    let y = bind_ok read (λ y. Ok (body y.0, y.1)) x e in
    subst (λ (x : Body × Reading). Takes (body_text x.0) r x.1 × Fits form x.0) (given (body y.0.0, y.0.1) x y.2) (each y.0 y.1)

keys-takes : (r : Reading) (y : List (List ℕ) × Reading) → IsBytes r.rest → repeated 5 key_at r ≡ Ok y
    → Takes (flat_map (λ key. key) y.0) r y.1 × (AllByRecursion IsPublicKey y.0 × (length y.0 ≡ 5))
keys-takes r y bytes e =
    let read = repeated-takes (λ key. key) IsPublicKey key_at key-takes 5 r y bytes e in
    (read.0, (read.1, read.2))

reveal-takes : (count : ℕ) (r : Reading) (x : Body × Reading) → IsBytes r.rest → body_at (OfReveal count) r ≡ Ok x
    → Takes (body_text x.0) r x.1 × Fits (OfReveal count) x.0
unfolding body_at
reveal-takes count r x bytes e =
    let votes = bind_ok (items_at Post count r) (λ votes. field_at 32 votes.1 >>= λ seed. Ok (Reveal votes.0 seed.0, seed.1)) x e in
    let seed = bind_ok (field_at 32 votes.0.1) (λ seed. Ok (Reveal votes.0.0 seed.0, seed.1)) x votes.2 in
    let v = items-takes Post count r votes.0 bytes votes.1 in
    let s = field-takes 32 votes.0.1 seed.0 seed.1 in
    let whole = Takes-append (flat_map prefixed votes.0.0) seed.0.0 r votes.0.1 seed.0.1 v.0 s.0 in
    subst (λ (x : Body × Reading). Takes (body_text x.0) r x.1 × Fits (OfReveal count) x.0)
    (given (Reveal votes.0.0 seed.0.0, seed.0.1) x seed.2) (whole, (v.1, s.1))

dispute-takes : (count : ℕ) (r : Reading) (x : Body × Reading) → IsBytes r.rest → body_at (OfDispute count) r ≡ Ok x
    → Takes (body_text x.0) r x.1 × Fits (OfDispute count) x.0
unfolding body_at
dispute-takes count r x bytes e =
    let posts = bind_ok (items_at Post count r) (λ posts. field_at 32 posts.1 >>= λ seed. field_at 32 seed.1 >>= λ opening. Ok
    (Dispute posts.0 seed.0 opening.0, opening.1)) x e in
    let seed = bind_ok (field_at 32 posts.0.1) (λ seed. field_at 32 seed.1 >>= λ opening. Ok
    (Dispute posts.0.0 seed.0 opening.0, opening.1)) x posts.2 in
    let opening = bind_ok (field_at 32 seed.0.1) (λ opening. Ok (Dispute posts.0.0 seed.0.0 opening.0, opening.1)) x seed.2 in
    let p = items-takes Post count r posts.0 bytes posts.1 in
    let s = field-takes 32 posts.0.1 seed.0 seed.1 in
    let o = field-takes 32 seed.0.1 opening.0 opening.1 in
    let both = Takes-append seed.0.0 opening.0.0 posts.0.1 seed.0.1 opening.0.1 s.0 o.0 in
    let whole = Takes-append (flat_map prefixed posts.0.0) (seed.0.0 ++ opening.0.0) r posts.0.1 opening.0.1 p.0 both in
    subst (λ (x : Body × Reading). Takes (body_text x.0) r x.1 × Fits (OfDispute count) x.0)
    (given (Dispute posts.0.0 seed.0.0 opening.0.0, opening.0.1) x opening.2) (whole, (p.1, s.1, o.1))

pub body-takes : (form : BodyForm) (r : Reading) (x : Body × Reading) → IsBytes r.rest → body_at form r ≡ Ok x → Takes (body_text x.0) r x.1
    × Fits form x.0
unfolding body_at
body-takes OfKeys r x bytes e = held-takes Keys OfKeys (repeated 5 key_at r) r x (λ y e. keys-takes r y bytes e) e
body-takes (OfSubmit n) r x bytes e = held-takes Submit (OfSubmit n) (item_at (Entry n) r) r x (λ y e. item-takes (Entry n) r y bytes e) e
body-takes (OfShuffled count n) r x bytes e = held-takes Shuffled (OfShuffled count n) (items_at (Entry n) count r) r x
    (λ y e. items-takes (Entry n) count r y bytes e) e
body-takes OfAbort r x bytes e = subst (λ (x : Body × Reading). Takes (body_text x.0) r x.1 × Fits OfAbort x.0) (given (Abort, r) x e)
    (Takes-none r, tt)
body-takes OfGo r x bytes e = held-takes Go OfGo (flag_at r) r x (λ y e. (flag-takes r y bytes e, tt)) e
body-takes (OfReveal count) r x bytes e = reveal-takes count r x bytes e
body-takes (OfDispute count) r x bytes e = dispute-takes count r x bytes e
body-takes (OfPads count) r x bytes e = held-takes Pads (OfPads count) (items_at Pad count r) r x (λ y e. items-takes Pad count r y bytes e)
    e
body-takes OfCheck r x bytes e = held-takes Check OfCheck (flag_at r) r x (λ y e. (flag-takes r y bytes e, tt)) e
body-takes (OfConfirm count) r x bytes e = held-takes Confirm (OfConfirm count) (items_at Post count r) r x
    (λ y e. items-takes Post count r y bytes e) e
body-takes (OfDiffer count) r x bytes e = held-takes Differ (OfDiffer count) (items_at Post count r) r x
    (λ y e. items-takes Post count r y bytes e) e

keys-again : (keys : List (List ℕ)) (place : ℕ) (rest : List ℕ) → AllByRecursion IsPublicKey keys × (length keys ≡ 5)
    → repeated 5 key_at (reading_at place (flat_map (λ key. key) keys ++ rest)) ≡ Ok
    (keys, reading_at (place + length (flat_map (λ key. key) keys)) rest)
keys-again keys place rest good =
    ap (λ (k : ℕ). repeated k key_at (reading_at place (flat_map (λ key. key) keys ++ rest))) (sym good.1)
    ∙ repeated-again (λ key. key) IsPublicKey key_at key-again keys place rest good.0

reveal-again : (count : ℕ) (votes : List (List ℕ)) (seed : List ℕ) (place : ℕ) (rest : List ℕ) → AreItems Post count votes
    → length seed ≡ 32 → body_at (OfReveal count) (reading_at place ((flat_map prefixed votes ++ seed) ++ rest)) ≡ Ok
    (Reveal votes seed, reading_at (place + length (flat_map prefixed votes ++ seed)) rest)
unfolding body_at
reveal-again count votes seed place rest good long =
    let told : ℕ → Result (Body × Reading) Offence = λ k. Ok (Reveal votes seed, reading_at k rest) in
    let front : List ℕ = flat_map prefixed votes in
    let grouped = append_assoc front seed rest in
    let first = items-again Post count votes place (seed ++ rest) good in
    let second = field-again 32 seed (place + length front) rest long in
    let ends : place + length front + length seed ≡ place + length (front ++ seed) = omega (arith, length-append front seed) in
    rw (grouped, first, second) (ap told ends)

dispute-again : (count : ℕ) (posts : List (List ℕ)) (seed opening : List ℕ) (place : ℕ) (rest : List ℕ) → AreItems Post count posts
    → length seed ≡ 32 → length opening ≡ 32 → body_at (OfDispute count)
    (reading_at place ((flat_map prefixed posts ++ (seed ++ opening)) ++ rest)) ≡ Ok
    (Dispute posts seed opening, reading_at (place + length (flat_map prefixed posts ++ (seed ++ opening))) rest)
unfolding body_at
dispute-again count posts seed opening place rest good long_seed long_opening =
    let told : ℕ → Result (Body × Reading) Offence = λ k. Ok (Dispute posts seed opening, reading_at k rest) in
    let front : List ℕ = flat_map prefixed posts in
    let grouped = append_assoc front (seed ++ opening) rest in
    let grouped_more = append_assoc seed opening rest in
    let first = items-again Post count posts place (seed ++ (opening ++ rest)) good in
    let second = field-again 32 seed (place + length front) (opening ++ rest) long_seed in
    let third = field-again 32 opening (place + length front + length seed) rest long_opening in
    let ends : place + length front + length seed + length opening ≡ place + length (front ++ (seed ++ opening)) = omega
    (arith, length-append front (seed ++ opening), length-append seed opening) in
    rw (grouped, grouped_more, first, second, third) (ap told ends)

pub body-again : (form : BodyForm) (body : Body) (place : ℕ) (rest : List ℕ) → Fits form body
    → body_at form (reading_at place (body_text body ++ rest)) ≡ Ok (body, reading_at (place + length (body_text body)) rest)
unfolding body_at
body-again OfKeys (Keys keys) place rest fits = ap (held_in Keys) (keys-again keys place rest fits)
body-again (OfSubmit n) (Submit ciphertext) place rest fits = ap (held_in Submit) (item-again (Entry n) ciphertext place rest fits)
body-again (OfShuffled count n) (Shuffled list) place rest fits = ap (held_in Shuffled) (items-again (Entry n) count list place rest fits)
body-again OfAbort Abort place rest fits =
    let told : ℕ → Result (Body × Reading) Offence = λ k. Ok (Abort, reading_at k rest) in
    ap told (sym (add-zero place))
body-again OfGo (Go vote) place rest fits = ap (held_in Go) (flag-again vote place rest)
body-again (OfReveal count) (Reveal votes seed) place rest fits = reveal-again count votes seed place rest fits.0 fits.1
body-again (OfDispute count) (Dispute posts seed opening) place rest fits = dispute-again count posts seed opening place rest fits.0 fits.1
    fits.2
body-again (OfPads count) (Pads pads) place rest fits = ap (held_in Pads) (items-again Pad count pads place rest fits)
body-again OfCheck (Check vote) place rest fits = ap (held_in Check) (flag-again vote place rest)
body-again (OfConfirm count) (Confirm votes) place rest fits = ap (held_in Confirm) (items-again Post count votes place rest fits)
body-again (OfDiffer count) (Differ posts) place rest fits = ap (held_in Differ) (items-again Post count posts place rest fits)
body-again _ _ place rest fits = absurd fits
