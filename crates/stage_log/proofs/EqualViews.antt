-- Equal views mean equal contents, or a collision.
use Rattle.std.proofs.Common.{◌≡◌, ℕ, zero, suc, ◌+◌, ◌-◌, ◌<◌, ◌≤◌, ◌^◌, ◌⊎◌, List, [], ◌∷◌, ◌++◌, length, take, drop, refl, ap, sym, ◌∙◌, arith, inl, inr, add-one}
use Rattle.std.specs.Prelude.{Contains}
use Rattle.std.specs.List.{AllByRecursion, slice_range}
use Rattle.wire_core.specs.declared.tag.Tag.TheVariants.{View}
use Rattle.wire_core.specs.Hash.{ArePieces, Collides, NoCollision, hash_of, hashed}
use Rattle.wire_core.proofs.ByteLists.{hash_bytes}
use Rattle.wire_core.proofs.Hashed.{collide_or_same}
use Rattle.phase_message.specs.Shape.{Shape}
use Rattle.phase_message.specs.Slots.{slots_before}
use Rattle.phase_message.proofs.SlotLists.{slots_before-rises}
use Rattle.stage_log.specs.Log.{contents_at, view_of}
use Rattle.stage_log.specs.Views.{SomeCollide, view_string, view_strings}
use Rattle.stage_log.proofs.Fronts.{front-next}

-- ---- pieces

pieces-take : (n : ℕ) (xs : List (List ℕ)) → ArePieces xs → ArePieces (take n xs)
pieces-take zero xs all = tt
pieces-take (suc n) [] all = tt
pieces-take (suc n) (x ∷ xs) all = (all.0, pieces-take n xs all.1)

pieces-drop : (n : ℕ) (xs : List (List ℕ)) → ArePieces xs → ArePieces (drop n xs)
pieces-drop zero xs all = all
pieces-drop (suc n) [] all = tt
pieces-drop (suc n) (x ∷ xs) all = pieces-drop n xs all.1

contents_at-pieces : (shape : Shape) (past : List (List ℕ)) (stage : ℕ) → ArePieces past → ArePieces (contents_at shape past stage)
contents_at-pieces shape past stage all =
    let a : ℕ = slots_before shape stage in
    pieces-take (slots_before shape (stage + 1) - a) (drop a past) (pieces-drop a past all)

view-short : (shape : Shape) (past : List (List ℕ)) (stage : ℕ) → length (view_of shape past stage) < 2 ^ 32
view-short shape past zero = omega (arith, (hash_bytes View []).0)
view-short shape past (suc stage) = omega (arith, (hash_bytes View (view_of shape past stage ∷ contents_at shape past stage)).0)

-- ---- strings of a list

contains-head : (s : List ℕ) (strings : List (List ℕ)) → Contains (s ∷ strings) s
contains-head s strings = (0, omega arith, refl)

contains-tail : (s t : List ℕ) (strings : List (List ℕ)) → Contains strings s → Contains (t ∷ strings) s
contains-tail s t strings there = (suc there.0, omega (arith, there.1), there.2)

-- ---- equal views

next-front : (shape : Shape) (past : List (List ℕ)) (stage : ℕ)
    → take (slots_before shape (suc stage)) past ≡ take (slots_before shape stage) past ++ contents_at shape past stage
next-front shape past stage =
    ap (λ (t : ℕ). take (slots_before shape t) past) (sym (add-one stage))
    ∙ front-next past (slots_before shape stage) (slots_before shape (stage + 1)) (slots_before-rises shape stage (stage + 1) (omega arith))

pub views-equal : (shape : Shape) (past other : List (List ℕ)) (stage : ℕ) → ArePieces past → ArePieces other
    → view_of shape past stage ≡ view_of shape other stage
    → (take (slots_before shape stage) past ≡ take (slots_before shape stage) other)
    ⊎ SomeCollide (view_strings shape past stage) (view_strings shape other stage)
views-equal shape past other zero all all' e = inl refl
views-equal shape past other (suc stage) all all' e =
    let pieces : List (List ℕ) = view_of shape past stage ∷ contents_at shape past stage in
    let pieces' : List (List ℕ) = view_of shape other stage ∷ contents_at shape other stage in
    elim (collide_or_same View View pieces pieces' (view-short shape past stage, contents_at-pieces shape past stage all)
    (view-short shape other stage, contents_at-pieces shape other stage all') e) [
      | inl same ↦
          let both : pieces ≡ pieces' = same.1 in
          let views : view_of shape past stage ≡ view_of shape other stage = cc in
          let contents : contents_at shape past stage ≡ contents_at shape other stage = cc in
          elim (views-equal shape past other stage all all' views) [
            | inl front ↦
                inl (next-front shape past stage
                ∙ ap (λ (t : List (List ℕ)). t ++ contents_at shape past stage) front
                ∙ ap (λ (t : List (List ℕ)). take (slots_before shape stage) other ++ t) contents
                ∙ sym (next-front shape other stage))
            | inr earlier ↦ inr (record {
              string = earlier.string;
              other = earlier.other;
              first = contains-tail earlier.string (hashed View pieces) (view_strings shape past stage) earlier.first;
              second = contains-tail earlier.other (hashed View pieces') (view_strings shape other stage) earlier.second;
              collide = earlier.collide;
            })
          ]
      | inr collide ↦ inr (record {
        string = hashed View pieces;
        other = hashed View pieces';
        first = contains-head (hashed View pieces) (view_strings shape past stage);
        second = contains-head (hashed View pieces') (view_strings shape other stage);
        collide = collide;
      })
    ]

pub views-determine : (shape : Shape) (past other strings : List (List ℕ)) (stage : ℕ) → ArePieces past → ArePieces other
    → ((s : List ℕ) → Contains (view_strings shape past stage) s → Contains strings s)
    → ((s : List ℕ) → Contains (view_strings shape other stage) s → Contains strings s)
    → NoCollision strings → view_of shape past stage ≡ view_of shape other stage
    → take (slots_before shape stage) past ≡ take (slots_before shape stage) other
views-determine shape past other strings stage all all' within within' none e =
    elim (views-equal shape past other stage all all' e) [
      | inl same ↦ same
      | inr some ↦ absurd (some.collide.0 (none some.string some.other (within some.string some.first) (within' some.other some.second)
          some.collide.1))
    ]
