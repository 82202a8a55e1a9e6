-- Hashed strings: how one grows by a piece, and that one determines its tag and its pieces.
use Rattle.std.proofs.Common.{◌≡◌, ◌≢◌, ℕ, ◌-◌, ◌<◌, ◌^◌, ◌⊎◌, inl, inr, List, [], ◌∷◌, ◌++◌, length, refl, ap, sym, ◌∙◌, append_assoc, append-nil, arith, slice_index_or}
use Rattle.std.specs.Prelude.{Contains}
use Rattle.std.specs.Int.{w32, w64, to_be_bytes, from_be_bytes}
use Rattle.std.specs.List.{flat_map}
use Rattle.std.proofs.lemmas.Bool.Decides.{eqb_tells}
use Rattle.std.proofs.lemmas.Grind.{flat_map-append}
use Rattle.std.proofs.lemmas.Nat.{from_be_bytes-to_be_bytes_4, from_be_bytes-to_be_bytes_8}
use Rattle.wire_core.proofs.ListLemmas.{split_once}
use Rattle.wire_core.specs.declared.tag.Tag.{Tag}
use Rattle.wire_core.specs.declared.tag.Tag.TheVariants.{View, Roster, RingPublic, RingSecret, RingCoins, LayerStream, LayerTag, LayerSeed, Message, PadStream, PadHash, Derive, LmsIdentifier, LmsSeed, ScriptKey, ScriptFresh, MakeSeed, MakeMessage}
use Rattle.wire_core.specs.Bytes.{prefixed}
use Rattle.wire_core.specs.Hash.{magic, tag_number, hashed, hash_of, ArePieces, layer_seed_pieces, layer_seed, layer_seed_string, Collides, NoCollision}

-- one more piece is appended to what is hashed
pub hashed-push : (tag : Tag) (pieces : List (List ℕ)) (b : List ℕ) → hashed tag (pieces ++ b ∷ []) ≡ hashed tag pieces ++ prefixed b
unfolding hashed
hashed-push tag pieces b =
    ap (λ (x : List ℕ). magic ++ tag_number tag ∷ x) (flat_map-append prefixed pieces (b ∷ [])
    ∙ ap (λ (x : List ℕ). flat_map prefixed pieces ++ x) (append-nil (prefixed b)))

-- ---- what a hashed string determines

tags : List Tag
tags = View ∷ Roster ∷ RingPublic ∷ RingSecret ∷ RingCoins ∷ LayerStream ∷ LayerTag ∷ LayerSeed ∷ Message ∷ PadStream ∷ PadHash ∷ Derive ∷
    LmsIdentifier ∷ LmsSeed ∷ ScriptKey ∷ ScriptFresh ∷ MakeSeed ∷ MakeMessage ∷ []

numbered : (t : Tag) → slice_index_or tags (tag_number t - 1) View ≡ t
unfolding tags
numbered View = refl
numbered Roster = refl
numbered RingPublic = refl
numbered RingSecret = refl
numbered RingCoins = refl
numbered LayerStream = refl
numbered LayerTag = refl
numbered LayerSeed = refl
numbered Message = refl
numbered PadStream = refl
numbered PadHash = refl
numbered Derive = refl
numbered LmsIdentifier = refl
numbered LmsSeed = refl
numbered ScriptKey = refl
numbered ScriptFresh = refl
numbered MakeSeed = refl
numbered MakeMessage = refl

-- no two tags have one byte
pub tag_number-determines : (t u : Tag) → tag_number t ≡ tag_number u → t ≡ u
tag_number-determines t u e =
    sym (numbered t) ∙ ap (λ (n : ℕ). slice_index_or tags (n - 1) View) e ∙ numbered u

-- the bytes of two lengths are equal only where the lengths are
be32-determines : (m n : ℕ) → m < 2 ^ 32 → n < 2 ^ 32 → to_be_bytes w32 m ≡ to_be_bytes w32 n → m ≡ n
be32-determines m n small small' e =
    sym (from_be_bytes-to_be_bytes_4 m small) ∙ ap (from_be_bytes w32) e ∙ from_be_bytes-to_be_bytes_4 n small'

-- bytes with their length before them end where they end, whatever follows
pub prefixed-front : (p q x y : List ℕ) → length p < 2 ^ 32 → length q < 2 ^ 32 → prefixed p ++ x ≡ prefixed q ++ y → (p ≡ q) × (x ≡ y)
prefixed-front p q x y small small' e =
    let be : ℕ → List ℕ = to_be_bytes w32 in
    let grouped : be (length p) ++ (p ++ x) ≡ be (length q) ++ (q ++ y) =
    sym (append_assoc (be (length p)) p x) ∙ e ∙ append_assoc (be (length q)) q y in
    let parts = split_once (be (length p)) (be (length q)) (p ++ x) (q ++ y) refl grouped in
    split_once p q x y (be32-determines (length p) (length q) small small' parts.0) parts.1

pieces-determined : (ps qs : List (List ℕ)) → ArePieces ps → ArePieces qs → flat_map prefixed ps ≡ flat_map prefixed qs → ps ≡ qs
pieces-determined [] [] s t e = refl
pieces-determined [] (q ∷ qs) s t e = absurd (omega (arith, ap length e))
pieces-determined (p ∷ ps) [] s t e = absurd (omega (arith, ap length e))
pieces-determined (p ∷ ps) (q ∷ qs) s t e =
    let parts = prefixed-front p q (flat_map prefixed ps) (flat_map prefixed qs) s.0 t.0 e in
    let fronts : p ≡ q = parts.0 in
    let rests : ps ≡ qs = pieces-determined ps qs s.1 t.1 parts.1 in
    cc

-- a hashed string determines its tag and its list of pieces
pub hashed_determines : (tag tag' : Tag) (pieces pieces' : List (List ℕ)) → ArePieces pieces → ArePieces pieces'
    → hashed tag pieces ≡ hashed tag' pieces' → (tag ≡ tag') × (pieces ≡ pieces')
unfolding hashed
hashed_determines tag tag' pieces pieces' s t e =
    let rest : tag_number tag ∷ flat_map prefixed pieces ≡ tag_number tag' ∷ flat_map prefixed pieces' = cc in
    let numbers : tag_number tag ≡ tag_number tag' = cc in
    let bytes : flat_map prefixed pieces ≡ flat_map prefixed pieces' = cc in
    (tag_number-determines tag tag' numbers, pieces-determined pieces pieces' s t bytes)

-- equal hashes of two strings of a list without collisions have equal tags and pieces
pub same_hash : (strings : List (List ℕ)) (tag tag' : Tag) (pieces pieces' : List (List ℕ)) → NoCollision strings
    → Contains strings (hashed tag pieces) → Contains strings (hashed tag' pieces') → ArePieces pieces → ArePieces pieces'
    → hash_of tag pieces ≡ hash_of tag' pieces' → (tag ≡ tag') × (pieces ≡ pieces')
unfolding hash_of
same_hash strings tag tag' pieces pieces' none there there' s t e =
    hashed_determines tag tag' pieces pieces' s t (none (hashed tag pieces) (hashed tag' pieces') there there' e)

-- two lists of numbers are equal, or they are not
pub same_or_not : (s t : List ℕ) → (s ≡ t) ⊎ (s ≢ t)
same_or_not [] [] = inl refl
same_or_not [] (b ∷ t) = inr (λ e. cc)
same_or_not (a ∷ s) [] = inr (λ e. cc)
same_or_not (a ∷ s) (b ∷ t) =
    elim (same_or_not s t) [
      | inl tails ↦ elim (eqb_tells a b) [ inl heads ↦ inl (let h : a ≡ b = heads.1 in cc) | inr heads ↦ inr (λ e. heads.1 cc) ]
      | inr tails ↦ inr (λ e. tails cc)
    ]

-- equal hashes have equal tags and pieces, or are those of two strings that collide
pub collide_or_same : (tag tag' : Tag) (pieces pieces' : List (List ℕ)) → ArePieces pieces → ArePieces pieces'
    → hash_of tag pieces ≡ hash_of tag' pieces' → ((tag ≡ tag') × (pieces ≡ pieces')) ⊎ Collides (hashed tag pieces) (hashed tag' pieces')
unfolding hash_of
collide_or_same tag tag' pieces pieces' s t e =
    elim (same_or_not (hashed tag pieces) (hashed tag' pieces')) [
      | inl same ↦ inl (hashed_determines tag tag' pieces pieces' s t same)
      | inr other ↦ inr (other, e)
    ]

-- no two strings of a part collide where none of the whole do
pub no_collision_part : (part strings : List (List ℕ)) → ((s : List ℕ) → Contains part s → Contains strings s) → NoCollision strings
    → NoCollision part
no_collision_part part strings inside none s t there there' e = none s t (inside s there) (inside t there') e

-- ---- the seed of a layer

be64-determines : (m n : ℕ) → m < 2 ^ 64 → n < 2 ^ 64 → to_be_bytes w64 m ≡ to_be_bytes w64 n → m ≡ n
be64-determines m n small small' e =
    sym (from_be_bytes-to_be_bytes_8 m small) ∙ ap (from_be_bytes w64) e ∙ from_be_bytes-to_be_bytes_8 n small'

-- the pieces of two lists of six are equal where the lists are
six_pieces : (a a' b b' : List ℕ) (c c' d d' e e' f f' : ℕ) → a ∷ b ∷ (c ∷ []) ∷ (d ∷ []) ∷ (e ∷ []) ∷ (f ∷ []) ∷ [] ≡ a' ∷ b' ∷ (c' ∷ []) ∷
    (d' ∷ []) ∷ (e' ∷ []) ∷ (f' ∷ []) ∷ [] → (a ≡ a') × (b ≡ b') × (c ≡ c') × (d ≡ d') × (e ≡ e') × (f ≡ f')
six_pieces a a' b b' c c' d d' e e' f f' same = (cc, cc, cc, cc, cc, cc)

pub layer_seed_determines : (strings : List (List ℕ)) (opening opening' : List ℕ)
    (round round' shuffle shuffle' side side' member member' layer layer' : ℕ) → NoCollision strings
    → Contains strings (layer_seed_string opening round shuffle side member layer)
    → Contains strings (layer_seed_string opening' round' shuffle' side' member' layer') → length opening ≡ 32 → length opening' ≡ 32
    → round < 2 ^ 64 → round' < 2 ^ 64 → layer_seed opening round shuffle side member layer ≡ layer_seed opening' round' shuffle' side'
    member' layer' → (opening ≡ opening') × (round ≡ round') × (shuffle ≡ shuffle') × (side ≡ side') × (member ≡ member') × (layer ≡ layer')
layer_seed_determines strings opening opening' round round' shuffle shuffle' side side' member member' layer layer' none there there' long
    long' small small' e =
    let pieces : ArePieces (layer_seed_pieces opening round shuffle side member layer) = fit opening round shuffle side member layer long in
    let pieces' : ArePieces (layer_seed_pieces opening' round' shuffle' side' member' layer') = fit opening' round' shuffle' side' member'
    layer' long' in
    let same = same_hash strings LayerSeed LayerSeed (layer_seed_pieces opening round shuffle side member layer)
    (layer_seed_pieces opening' round' shuffle' side' member' layer') none there there' pieces pieces' e in
    let parts = six_pieces opening opening' (to_be_bytes w64 round) (to_be_bytes w64 round') shuffle shuffle' side side' member member'
    layer layer' same.1 in
    (parts.0, be64-determines round round' small small' parts.1, parts.2, parts.3, parts.4, parts.5)
  where
    fit : (opening : List ℕ) (round shuffle side member layer : ℕ) → length opening ≡ 32
        → ArePieces (layer_seed_pieces opening round shuffle side member layer)
    fit opening round shuffle side member layer long = (
      omega arith,
      (omega arith, (omega arith, (omega arith, (omega arith, (omega arith, tt))))),
    )
