-- Parts of a byte string, one after the other.
use Rattle.std.proofs.Common.{◌≡◌, ℕ, zero, suc, ◌+◌, ◌*◌, ◌≤◌, List, [], ◌∷◌, ◌++◌, take, drop, length, refl, sym, arith, add-one, append_assoc, length-append}
use Rattle.std.specs.List.{concat, AllByRecursion}
use Rattle.std.proofs.Math.Seq.{take-append-add}
use Rattle.std.proofs.lemmas.List.{take_at, drop_at, take-append-drop, length-drop, length-take-le}
use Rattle.bulk_descriptor.specs.Descriptor.{parts_of}

pub parts_of-none : (size : ℕ) (bytes : List ℕ) → parts_of size 0 bytes ≡ []
unfolding parts_of
parts_of-none size bytes = refl

pub parts_of-next : (size n m : ℕ) (bytes : List ℕ) → n ≡ m + 1
    → parts_of size n bytes ≡ take size bytes ∷ parts_of size m (drop size bytes)
unfolding parts_of
parts_of-next size n m bytes e = rw (e, add-one) refl

pub length-parts_of : (size n : ℕ) (bytes : List ℕ) → length (parts_of size n bytes) ≡ n
unfolding parts_of
length-parts_of size zero bytes = refl
length-parts_of size (suc n) bytes = let rest = length-parts_of size n (drop size bytes) in omega arith

pub take-add : (xs : List ℕ) (from count : ℕ) → from ≤ length xs → take (from + count) xs ≡ take from xs ++ take count (drop from xs)
take-add xs from count within =
    let front : length (take from xs) ≡ from = length-take-le from xs within in
    let whole : take (length (take from xs) + count) (take from xs ++ drop from xs) ≡ take from xs
    ++ take count (drop from xs) = take-append-add (take from xs) (drop from xs) count in
    rw (front, take-append-drop from xs) at whole

-- put together, the parts are the front of the bytes
pub concat-parts_of : (size n : ℕ) (bytes : List ℕ) → size * n ≤ length bytes → concat (parts_of size n bytes) ≡ take (size * n) bytes
unfolding parts_of
concat-parts_of size zero bytes room = let none : size * 0 ≡ 0 = omega arith in rw none refl
concat-parts_of size (suc n) bytes room =
    let product : size * suc n ≡ size + size * n = omega arith in
    let rest : size * n ≤ length (drop size bytes) = omega (arith, length-drop size bytes) in
    rw (product, concat-parts_of size n (drop size bytes) rest) (sym (take-add bytes size (size * n) (omega arith)))

-- what was put together is taken apart again, whatever follows
pub parts_of-concat : (size n : ℕ) (xs : List (List ℕ)) (more : List ℕ) → length xs ≡ n → AllByRecursion (λ x. length x ≡ size) xs
    → parts_of size n (concat xs ++ more) ≡ xs
unfolding parts_of
parts_of-concat size zero [] more e sizes = refl
parts_of-concat size zero (x ∷ xs) more e sizes = absurd (omega arith)
parts_of-concat size (suc n) [] more e sizes = absurd (omega arith)
parts_of-concat size (suc n) (x ∷ xs) more e sizes =
    let joined : (x ++ concat xs) ++ more ≡ x ++ (concat xs ++ more) = append_assoc x (concat xs) more in
    let front : take size (x ++ (concat xs ++ more)) ≡ x = take_at x (concat xs ++ more) size sizes.0 in
    let back : drop size (x ++ (concat xs ++ more)) ≡ concat xs ++ more = drop_at x (concat xs ++ more) size sizes.0 in
    let rest : parts_of size n (concat xs ++ more) ≡ xs = parts_of-concat size n xs more (omega arith) sizes.1 in
    rw (joined, front, back, rest) refl

pub length-concat : (size : ℕ) (xs : List (List ℕ)) → AllByRecursion (λ x. length x ≡ size) xs → length (concat xs) ≡ size * length xs
length-concat size [] sizes = omega arith
length-concat size (x ∷ xs) sizes =
    let rest : length (concat xs) ≡ size * length xs = length-concat size xs sizes.1 in
    let first : length x ≡ size = sizes.0 in
    omega (arith, length-append x (concat xs))

-- each part has its size
pub sizes-parts_of : (size n : ℕ) (bytes : List ℕ) → size * n ≤ length bytes → AllByRecursion (λ x. length x ≡ size) (parts_of size n bytes)
unfolding parts_of
sizes-parts_of size zero bytes room = tt
sizes-parts_of size (suc n) bytes room =
    let product : size * suc n ≡ size * n + size = omega arith in
    (length-take-le size bytes (omega arith), sizes-parts_of size n (drop size bytes) (omega (arith, length-drop size bytes)))
