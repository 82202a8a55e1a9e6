-- What is read was spelled so and is of the grammar, and what is of the grammar is read from its
-- spelling: one pair of laws for each field, for a body and for a content.
use Rattle.std.proofs.Common.{◌≡◌, ℕ, zero, suc, ◌+◌, ◌<◌, ◌≤◌, ◌^◌, Bool, true, false, List, [], ◌∷◌, ◌++◌, length, drop, refl, ap, sym, ◌∙◌, subst, arith, append_assoc, length-append}
use Rattle.std.specs.Prelude.{None, Result, Ok, nat_lt, ◌==◌, option_map}
use Rattle.std.specs.Int.{w8, w32, to_be_bytes}
use Rattle.std.specs.List.{flat_map}
use Rattle.std.proofs.lemmas.Bool.{ltb-false, le-ltb}
use Rattle.ring_poly.specs.Packing.{unpacked, first_too_large}
use Rattle.ring_poly.proofs.Packings.{none_from_all, all_from_none}
use Rattle.wire_core.specs.Bytes.{IsBytes}
use Rattle.wire_core.specs.Answers.{value_unless}
use Rattle.wire_core.proofs.AnswerLemmas.{value_unless-ok, nothing_mapped}
use Rattle.wire_core.specs.Reading.{Reading, reading_at, ◌>>=◌, fault_as, unless, bytes_at, number_at, repeated, Takes}
use Rattle.wire_core.proofs.Readings.{bind_ok, fault_as_ok, guard_ok, Takes-append, bytes_at-takes, bytes_at-again, number_at-takes_1, number_at-takes_4, number_at-again_1, number_at-again_4, repeated-takes, repeated-again}
use Rattle.phase_message.specs.declared.form.ItemForm.{ItemForm}
use Rattle.phase_message.specs.declared.form.ItemForm.TheVariants.{Entry, Post, Pad}
use Rattle.phase_message.specs.declared.offence.Offence.{Offence}
use Rattle.phase_message.specs.Offence.{offence, cut, field_at, flag_at, bad_group, key_at, length_at, item_at, items_at}
use Rattle.ring_poly.specs.PublicKey.{IsPublicKey}
use Rattle.phase_message.specs.Grammar.{prefixed, flag_text, IsItem, AreItems}

-- ---- n bytes

pub field-takes : (n : ℕ) (r : Reading) (x : List ℕ × Reading) → field_at n r ≡ Ok x → Takes x.0 r x.1 × (length x.0 ≡ n)
field-takes n r x e = bytes_at-takes n r x (fault_as_ok cut (bytes_at n r) x e)

pub field-again : (n : ℕ) (text : List ℕ) (place : ℕ) (rest : List ℕ) → length text ≡ n
    → field_at n (reading_at place (text ++ rest)) ≡ Ok (text, reading_at (place + length text) rest)
field-again n text place rest long =
    let told : ℕ → Result (List ℕ × Reading) Offence = λ k. Ok (text, reading_at (place + k) rest) in
    ap (fault_as cut) (bytes_at-again n text rest place long) ∙ ap told (sym long)

-- ---- flags

flag_spelled : (m : ℕ) → m ≤ 1 → flag_text (m == 1) ≡ m ∷ []
flag_spelled zero small = refl
flag_spelled (suc zero) small = refl
flag_spelled (suc (suc m)) small = absurd (omega arith)

pub flag-takes : (r : Reading) (x : Bool × Reading) → IsBytes r.rest → flag_at r ≡ Ok x → Takes (flag_text x.0) r x.1
unfolding flag_at
flag-takes r x bytes e =
    let n = bind_ok (fault_as cut (number_at w8 r)) (λ flag. unless (nat_lt 1 flag.0) (offence 5 r.place) (flag.0 == 1, flag.1)) x e in
    let test = guard_ok (nat_lt 1 n.0.0) (offence 5 r.place) (n.0.0 == 1, n.0.1) x n.2 in
    let number = number_at-takes_1 r n.0 bytes (fault_as_ok cut (number_at w8 r) n.0 n.1) in
    let spelled = flag_spelled n.0.0 (ltb-false 1 n.0.0 test.0) in
    subst (λ (x : Bool × Reading). Takes (flag_text x.0) r x.1) test.1 (subst (λ (t : List ℕ). Takes t r n.0.1) (sym spelled) number.0)

pub flag-again : (vote : Bool) (place : ℕ) (rest : List ℕ) → flag_at (reading_at place (flag_text vote ++ rest)) ≡ Ok
    (vote, reading_at (place + length (flag_text vote)) rest)
unfolding flag_at
flag-again true place rest =
    ap (λ (n : Result (ℕ × Reading) Offence). n >>= λ flag. unless (nat_lt 1 flag.0) (offence 5 place) (flag.0 == 1, flag.1))
    (ap (fault_as cut) (number_at-again_1 1 place rest))
flag-again false place rest =
    ap (λ (n : Result (ℕ × Reading) Offence). n >>= λ flag. unless (nat_lt 1 flag.0) (offence 5 place) (flag.0 == 1, flag.1))
    (ap (fault_as cut) (number_at-again_1 0 place rest))

-- ---- public keys

good_group : (bytes : List ℕ) → bad_group bytes ≡ None → first_too_large 0 (unpacked bytes) ≡ None
unfolding bad_group
good_group bytes e = nothing_mapped _ (first_too_large 0 (unpacked bytes)) e

group_good : (bytes : List ℕ) → first_too_large 0 (unpacked bytes) ≡ None → bad_group bytes ≡ None
unfolding bad_group
group_good bytes e = rw e refl

pub key-takes : (r : Reading) (x : List ℕ × Reading) → IsBytes r.rest → key_at r ≡ Ok x → Takes x.0 r x.1 × IsPublicKey x.0
unfolding key_at
key-takes r x bytes e =
    let key = bind_ok (field_at 1824 r) (λ key. value_unless (option_map (λ group. offence 4 (r.place + 32 + group))
    (bad_group (drop 32 key.0))) key) x e in
    let told = option_map (λ group. offence 4 (r.place + 32 + group)) (bad_group (drop 32 key.0.0)) in
    let test = value_unless-ok told key.0 x key.2 in
    let none = nothing_mapped (λ group. offence 4 (r.place + 32 + group)) (bad_group (drop 32 key.0.0)) test.0 in
    let field = field-takes 1824 r key.0 key.1 in
    let small = all_from_none (unpacked (drop 32 key.0.0)) (good_group (drop 32 key.0.0) none) in
    subst (λ (x : List ℕ × Reading). Takes x.0 r x.1 × IsPublicKey x.0) test.1 (field.0, record { length = field.1; reduced = small })

pub key-again : (key : List ℕ) (place : ℕ) (rest : List ℕ) → IsPublicKey key
    → key_at (reading_at place (key ++ rest)) ≡ Ok (key, reading_at (place + length key) rest)
unfolding key_at
key-again key place rest good =
    let field = field-again 1824 key place rest good.length in
    let group = group_good (drop 32 key) (none_from_all (unpacked (drop 32 key)) good.reduced) in
    rw (field, group) refl

-- ---- items

-- how an item of a form is spelled
abbrev pub item_text : ItemForm → List ℕ → List ℕ
item_text (Entry n) item = item
item_text Post item = prefixed item
item_text Pad item = prefixed item

prefixed-takes : (r : Reading) (n : ℕ × Reading) (x : List ℕ × Reading) → IsBytes r.rest → fault_as cut (number_at w32 r) ≡ Ok n
    → field_at n.0 n.1 ≡ Ok x → Takes (prefixed x.0) r x.1 × (length x.0 ≡ n.0) × (n.0 < 2 ^ 32)
prefixed-takes r n x bytes e f =
    let number = number_at-takes_4 r n bytes (fault_as_ok cut (number_at w32 r) n e) in
    let body = field-takes n.0 n.1 x f in
    let spelled = Takes-append (to_be_bytes w32 n.0) x.0 r n.1 x.1 number.0 body.0 in
    (subst (λ (k : ℕ). Takes (to_be_bytes w32 k ++ x.0) r x.1) (sym body.1) spelled, body.1, number.1)

pub item-takes : (form : ItemForm) (r : Reading) (x : List ℕ × Reading) → IsBytes r.rest → item_at form r ≡ Ok x
    → Takes (item_text form x.0) r x.1 × IsItem form x.0
unfolding item_at length_at
item-takes (Entry n) r x bytes e = field-takes n r x e
item-takes Post r x bytes e =
    let n = bind_ok (fault_as cut (number_at w32 r)) (λ n. field_at n.0 n.1) x e in
    let read = prefixed-takes r n.0 x bytes n.1 n.2 in
    (read.0, omega (arith, read.1, read.2))
item-takes Pad r x bytes e =
    let n = bind_ok (fault_as cut (number_at w32 r) >>= λ n. unless (nat_lt 65536 n.0) (offence 6 r.place) n) (λ n. field_at n.0 n.1) x e in
    let m = bind_ok (fault_as cut (number_at w32 r)) (λ n. unless (nat_lt 65536 n.0) (offence 6 r.place) n) n.0 n.1 in
    let test = guard_ok (nat_lt 65536 m.0.0) (offence 6 r.place) m.0 n.0 m.2 in
    let few = ltb-false 65536 m.0.0 test.0 in
    let field : field_at m.0.0 m.0.1 ≡ Ok x = subst (λ (k : ℕ × Reading). field_at k.0 k.1 ≡ Ok x) (sym test.1) n.2 in
    let read = prefixed-takes r m.0 x bytes m.1 field in
    (read.0, omega (arith, read.1, few))

prefix-again : (item : List ℕ) (place : ℕ) (rest : List ℕ) → length item < 2 ^ 32
    → fault_as cut (number_at w32 (reading_at place (prefixed item ++ rest))) ≡ Ok (length item, reading_at (place + 4) (item ++ rest))
prefix-again item place rest small =
    ap (λ (bytes : List ℕ). fault_as cut (number_at w32 (reading_at place bytes))) (append_assoc (to_be_bytes w32 (length item)) item rest)
    ∙ ap (fault_as cut) (number_at-again_4 (length item) place (item ++ rest) small)

after_prefix : (item : List ℕ) (place : ℕ) (rest : List ℕ) → field_at (length item) (reading_at (place + 4) (item ++ rest)) ≡ Ok
    (item, reading_at (place + length (prefixed item)) rest)
after_prefix item place rest =
    let told : ℕ → Result (List ℕ × Reading) Offence = λ k. Ok (item, reading_at k rest) in
    let be : List ℕ = to_be_bytes w32 (length item) in
    let ends : place + 4 + length item ≡ place + length (be ++ item) = omega (arith, length-append be item) in
    field-again (length item) item (place + 4) rest refl ∙ ap told ends

pub item-again : (form : ItemForm) (item : List ℕ) (place : ℕ) (rest : List ℕ) → IsItem form item
    → item_at form (reading_at place (item_text form item ++ rest)) ≡ Ok (item, reading_at (place + length (item_text form item)) rest)
unfolding item_at length_at
item-again (Entry n) item place rest long = field-again n item place rest long
item-again Post item place rest small =
    ap (λ (n : Result (ℕ × Reading) Offence). n >>= λ n. field_at n.0 n.1) (prefix-again item place rest small)
    ∙ after_prefix item place rest
item-again Pad item place rest few =
    ap (λ (n : Result (ℕ × Reading) Offence). (n >>= λ n. unless (nat_lt 65536 n.0) (offence 6 place) n) >>= λ n. field_at n.0 n.1)
    (prefix-again item place rest (omega arith))
    ∙ (rw (le-ltb 65536 (length item) few) (after_prefix item place rest))

pub items-takes : (form : ItemForm) (count : ℕ) (r : Reading) (x : List (List ℕ) × Reading) → IsBytes r.rest → items_at form count r ≡ Ok x
    → Takes (flat_map (item_text form) x.0) r x.1 × AreItems form count x.0
items-takes form count r x bytes e =
    let read = repeated-takes (item_text form) (IsItem form) (item_at form) (item-takes form) count r x bytes e in
    (read.0, (read.1, read.2))

pub items-again : (form : ItemForm) (count : ℕ) (items : List (List ℕ)) (place : ℕ) (rest : List ℕ) → AreItems form count items
    → items_at form count (reading_at place (flat_map (item_text form) items ++ rest)) ≡ Ok
    (items, reading_at (place + length (flat_map (item_text form) items)) rest)
items-again form count items place rest good =
    ap (λ (k : ℕ). repeated k (item_at form) (reading_at place (flat_map (item_text form) items ++ rest))) (sym good.1)
    ∙ repeated-again (item_text form) (IsItem form) (item_at form) (item-again form) items place rest good.0
