-- A seed finds exactly what is sealed under its key.
use Rattle.std.proofs.Common.{◌≡◌, ℕ, ◌+◌, ◌<◌, ◌≤◌, List, [], ◌∷◌, ◌++◌, length, take, drop, Bool, true, false, not, cond, refl, sym, ap, subst, ◌∙◌, arith, Option, Some, None, append_assoc, length-append}
use Rattle.std.specs.Option.{option_and_then}
use Rattle.std.specs.Str.{bytes_eq}
use Rattle.std.proofs.lemmas.Slice.Eq.{bytes_eq-Decides}
use Rattle.std.proofs.lemmas.List.{take_at, drop_at, take-append-drop, drop-drop}
use Rattle.wire_core.specs.declared.tag.Tag.TheVariants.{LayerStream, LayerTag}
use Rattle.wire_core.specs.Hash.{hash_of}
use Rattle.wire_core.proofs.ByteLists.{hash_bytes}
use Rattle.pad_stream.specs.Stream.{stream_of}
use Rattle.pad_stream.proofs.StreamLemmas.{length-bytes_from}
use Rattle.pad_stream.proofs.ExclusiveOrLemmas.{exclusive_or_undo, length-exclusive_or}
use Rattle.ring_encrypt.specs.Capsule.{key_of_seed, capsule_of}
use Rattle.ring_encrypt.specs.Opening.{IsMessage, opened}
use Rattle.ring_encrypt.proofs.OpeningLemmas.{length-capsule_of}
use Rattle.ring_encrypt.proofs.Exactness.{opens_exactly}
use Rattle.layer_cipher.specs.declared.peeling.Peeled.TheVariants.{Layer, NoLayer}
use Rattle.layer_cipher.specs.Layer.{masked, layer_of, Opens, peeled}
use Rattle.layer_cipher.specs.Peeling.{returned}
use Rattle.layer_cipher.specs.Laws.{PeelsExactly, KeyPeels, LayerAdds}

-- ---- the parts of a layer
pub length-masked : (m body : List ℕ) → length (masked m body) ≡ length body
length-masked m body =
    let key = hash_of LayerStream (m ∷ []) in
    length-exclusive_or body (stream_of key (length body)) (sym (length-bytes_from key 0 (length body)))

pub masked_twice : (m body : List ℕ) → masked m (masked m body) ≡ body
masked_twice m body =
    let key = hash_of LayerStream (m ∷ []) in
    rw (length-masked m body) (exclusive_or_undo body (stream_of key (length body)) (omega (arith, length-bytes_from key 0 (length body))))

check_of : List ℕ → List ℕ → List ℕ
check_of m hidden = hash_of LayerTag (m ∷ hidden ∷ [])

length-front : (key m hidden : List ℕ) → length (capsule_of key m ++ hash_of LayerTag (m ∷ hidden ∷ [])) ≡ 2272
length-front key m hidden = omega (
  arith,
  length-append (capsule_of key m) (hash_of LayerTag (m ∷ hidden ∷ [])),
  length-capsule_of key m,
  (hash_bytes LayerTag (m ∷ hidden ∷ [])).0,
)

pub layer_adds : LayerAdds
unfolding layer_of
layer_adds key m body =
    omega (
      arith,
      length-append (capsule_of key m ++ hash_of LayerTag (m ∷ masked m body ∷ [])) (masked m body),
      length-front key m
          (masked m body),
      length-masked m body,
    )

layer_capsule : (key m body : List ℕ) → take 2240 (layer_of key m body) ≡ capsule_of key m
unfolding layer_of
layer_capsule key m body =
    rw append_assoc (take_at (capsule_of key m) (hash_of LayerTag (m ∷ masked m body ∷ []) ++ masked m body) 2240 (length-capsule_of key m))

layer_hidden : (key m body : List ℕ) → drop 2272 (layer_of key m body) ≡ masked m body
unfolding layer_of
layer_hidden key m body = drop_at (capsule_of key m ++ hash_of LayerTag (m ∷ masked m body ∷ [])) (masked m body) 2272
    (length-front key m (masked m body))

layer_check : (key m body : List ℕ) → take 32 (drop 2240 (layer_of key m body)) ≡ hash_of LayerTag (m ∷ masked m body ∷ [])
unfolding layer_of
layer_check key m body =
    let rest : drop 2240 (capsule_of key m ++ (hash_of LayerTag (m ∷ masked m body ∷ []) ++ masked m body)) ≡ hash_of LayerTag
    (m ∷ masked m body ∷ []) ++ masked m body
    = drop_at (capsule_of key m) (hash_of LayerTag (m ∷ masked m body ∷ []) ++ masked m body) 2240 (length-capsule_of key m) in
    rw (append_assoc, rest) (take_at (hash_of LayerTag (m ∷ masked m body ∷ [])) (masked m body) 32
    (hash_bytes LayerTag (m ∷ masked m body ∷ [])).0)

-- ---- peeling is exact
chosen : (b : Bool) (found p : List ℕ × List ℕ) → cond b (Some found) None ≡ Some p → (b ≡ true) × (found ≡ p)
chosen true found p e = (refl, cc)
chosen false found p e = cc

-- what peeling goes on to do once the capsule is opened
next : List ℕ → List ℕ → List ℕ → Option (List ℕ × List ℕ)
next seed layer m = cond (bytes_eq layer (layer_of (key_of_seed seed) m (masked m (drop 2272 layer))))
    (Some (m, masked m (drop 2272 layer))) None

peeled_is : (seed layer : List ℕ) → peeled seed layer ≡ option_and_then (next seed layer) (opened seed (take 2240 layer))
unfolding peeled next
peeled_is seed layer = refl

opens_next : (seed layer m0 m body : List ℕ) → opened seed (take 2240 layer) ≡ Some m0 → next seed layer m0 ≡ Some (m, body)
    → Opens seed layer m body
unfolding next
opens_next seed layer m0 m body is e =
    let found : List ℕ × List ℕ = (m0, masked m0 (drop 2272 layer)) in
    let c = chosen (bytes_eq layer (layer_of (key_of_seed seed) m0 (masked m0 (drop 2272 layer)))) found (m, body) e in
    let first : m0 ≡ m = ap (λ (p : List ℕ × List ℕ). p.0) c.1 in
    let second : masked m0 (drop 2272 layer) ≡ body = ap (λ (p : List ℕ × List ℕ). p.1) c.1 in
    let same : layer ≡ layer_of (key_of_seed seed) m0 (masked m0 (drop 2272 layer)) =
    (bytes_eq-Decides layer (layer_of (key_of_seed seed) m0 (masked m0 (drop 2272 layer)))).0 c.0 in
    record {
      message = subst (λ (x : List ℕ). IsMessage x) first ((opens_exactly seed (take 2240 layer) m0).0 is).0;
      is = same ∙ ap (λ (p : List ℕ × List ℕ). layer_of (key_of_seed seed) p.0 p.1) c.1;
    }

opens_from : (seed layer m body : List ℕ) (o : Option (List ℕ)) → opened seed (take 2240 layer) ≡ o
    → option_and_then (next seed layer) o ≡ Some (m, body) → Opens seed layer m body
opens_from seed layer m body None is e = cc
opens_from seed layer m body (Some m0) is e = opens_next seed layer m0 m body is e

-- the capsule of a layer opens, and the rest is as it says
peels : (seed layer m body : List ℕ) → Opens seed layer m body → peeled seed layer ≡ Some (m, body)
unfolding next
peels seed layer m body opens =
    let is = opens.is in
    let capsule : take 2240 layer ≡ capsule_of (key_of_seed seed) m = rw is (layer_capsule (key_of_seed seed) m body) in
    let inside : opened seed (take 2240 layer) ≡ Some m = (opens_exactly seed (take 2240 layer) m).1 (opens.message, capsule) in
    let hidden : drop 2272 layer ≡ masked m body = rw is (layer_hidden (key_of_seed seed) m body) in
    let clear : masked m (drop 2272 layer) ≡ body = rw hidden (masked_twice m body) in
    let test : bytes_eq layer (layer_of (key_of_seed seed) m body) ≡ true = (bytes_eq-Decides layer (layer_of (key_of_seed seed) m body)).1
    is in
    rw (peeled_is seed layer, inside, clear, test) refl

pub peels_exactly : PeelsExactly
peels_exactly seed layer m body = (
  λ e. opens_from seed layer m body (opened seed (take 2240 layer)) refl (sym (peeled_is seed layer) ∙ e),
  λ opens. peels seed layer m body opens,
)

-- ---- seeds of one key
same_option : (o p : Option (List ℕ × List ℕ)) → ((x : List ℕ × List ℕ) → o ≡ Some x → p ≡ Some x)
    → ((x : List ℕ × List ℕ) → p ≡ Some x → o ≡ Some x) → o ≡ p
same_option None None there back = refl
same_option None (Some y) there back = back y refl
same_option (Some x) p there back = sym (there x refl)

peels_there : (seed seed' layer : List ℕ) (x : List ℕ × List ℕ) → key_of_seed seed ≡ key_of_seed seed' → peeled seed layer ≡ Some x
    → peeled seed' layer ≡ Some x
peels_there seed seed' layer x same e =
    let opens = (peels_exactly seed layer x.0 x.1).0 e in
    (peels_exactly seed' layer x.0 x.1).1 (record {
      message = opens.message;
      is = opens.is
          ∙ ap (λ (key : List ℕ). layer_of key x.0 x.1) same;
    })

pub key_peels : KeyPeels
key_peels seed seed' layer same =
    same_option (peeled seed layer) (peeled seed' layer) (λ x. peels_there seed seed' layer x same)
    (λ x. peels_there seed' seed layer x (sym same))

-- ---- what the code returns
none_from : (o : Option (List ℕ × List ℕ)) → ((m body : List ℕ) → o ≡ Some (m, body) → ⊥) → o ≡ None
none_from None h = refl
none_from (Some x) h = absurd (h x.0 x.1 refl)

pub returns_no_layer : (seed layer : List ℕ) → ((m body : List ℕ) → Opens seed layer m body → ⊥) → NoLayer ≡ returned (peeled seed layer)
returns_no_layer seed layer none = ap returned (sym (none_from (peeled seed layer)
    (λ m body e. none m body ((peels_exactly seed layer m body).0 e))))

pub returns_layer : (seed layer m body : List ℕ) → Opens seed layer m body → Layer m body ≡ returned (peeled seed layer)
returns_layer seed layer m body opens = ap returned (sym ((peels_exactly seed layer m body).1 opens))

-- too few bytes
pub short_opens_nothing : (seed layer m body : List ℕ) → length layer < 2272 → Opens seed layer m body → ⊥
short_opens_nothing seed layer m body short opens =
    let long : length layer ≡ length body + 2272 = rw opens.is (layer_adds (key_of_seed seed) m body) in
    omega arith

-- a capsule that does not open
pub closed_opens_nothing : (seed layer m body : List ℕ) → opened seed (take 2240 layer) ≡ None → Opens seed layer m body → ⊥
closed_opens_nothing seed layer m body closed opens =
    let capsule : take 2240 layer ≡ capsule_of (key_of_seed seed) m = rw opens.is (layer_capsule (key_of_seed seed) m body) in
    let inside : opened seed (take 2240 layer) ≡ Some m = (opens_exactly seed (take 2240 layer) m).1 (opens.message, capsule) in
    cc

-- a check value that is another
pub other_opens_nothing : (seed layer m m0 body check : List ℕ) → opened seed (take 2240 layer) ≡ Some m0
    → check ≡ hash_of LayerTag (m0 ∷ drop 2272 layer ∷ [])
    → (check ≡ take 32 (drop 2240 layer) → ⊥) → Opens seed layer m body → ⊥
other_opens_nothing seed layer m m0 body check opened_to is-check other opens =
    let capsule : take 2240 layer ≡ capsule_of (key_of_seed seed) m = rw opens.is (layer_capsule (key_of_seed seed) m body) in
    let inside : opened seed (take 2240 layer) ≡ Some m = (opens_exactly seed (take 2240 layer) m).1 (opens.message, capsule) in
    let same : m0 ≡ m = cc in
    let hidden : drop 2272 layer ≡ masked m body = rw opens.is (layer_hidden (key_of_seed seed) m body) in
    let there : take 32 (drop 2240 layer) ≡ hash_of LayerTag (m ∷ masked m body ∷ []) = rw opens.is (layer_check (key_of_seed seed) m body)
    in
    other (is-check ∙ rw (same, hidden) (sym there))

-- the bytes are put together again
whole : (layer : List ℕ) → 2272 ≤ length layer → (take 2240 layer ++ take 32 (drop 2240 layer)) ++ drop 2272 layer ≡ layer
whole layer long =
    let rest : drop 32 (drop 2240 layer) ≡ drop 2272 layer = drop-drop 32 2240 layer in
    rw (append_assoc, ← rest, take-append-drop 32 (drop 2240 layer), take-append-drop 2240 layer) refl

pub layer_found : (seed layer m body check : List ℕ) → 2272 ≤ length layer → opened seed (take 2240 layer) ≡ Some m
    → check ≡ hash_of LayerTag (m ∷ drop 2272 layer ∷ [])
    → check ≡ take 32 (drop 2240 layer) → body ≡ masked m (drop 2272 layer) → Opens seed layer m body
unfolding layer_of
layer_found seed layer m body check long inside is-check is-there is-body =
    let h = (opens_exactly seed (take 2240 layer) m).0 inside in
    let capsule : take 2240 layer ≡ capsule_of (key_of_seed seed) m = h.1 in
    let value : take 32 (drop 2240 layer) ≡ hash_of LayerTag (m ∷ drop 2272 layer ∷ []) = sym is-there ∙ is-check in
    let hidden : masked m body ≡ drop 2272 layer = rw is-body (masked_twice m (drop 2272 layer)) in
    record {
      message = h.0;
      is = sym (whole layer long) ∙ rw (hidden, capsule, value) refl;
    }

-- ---- a test of bytes, as the code makes it
not_false : (b : Bool) → not b ≡ false → b ≡ true
not_false true e = refl
not_false false e = cc

pub bytes_differ : (x y : List ℕ) (r : Bool) → r ≡ not (bytes_eq x y) → r ≡ true → x ≡ y → ⊥
bytes_differ x y r is holds same =
    let test : bytes_eq x y ≡ true = (bytes_eq-Decides x y).1 same in
    let turned : not (bytes_eq x y) ≡ false = ap not test in
    cc

pub bytes_same : (x y : List ℕ) (r : Bool) → r ≡ not (bytes_eq x y) → r ≡ false → x ≡ y
bytes_same x y r is fails = (bytes_eq-Decides x y).0 (not_false (bytes_eq x y) (sym is ∙ fails))

-- the masked body, as the code takes it
pub hidden_of : (layer rest hidden : List ℕ) → rest ≡ drop 2240 layer → hidden ≡ drop 32 rest → hidden ≡ drop 2272 layer
hidden_of layer rest hidden is-rest is-hidden = is-hidden ∙ ap (λ (x : List ℕ). drop 32 x) is-rest ∙ drop-drop 32 2240 layer
