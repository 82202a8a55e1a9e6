-- The id of a roster determines it, unless two strings collide.
use Rattle.std.proofs.Common.{◌≡◌, ◌⊎◌, inl, inr, ℕ, ◌+◌, ◌*◌, ◌<◌, ◌^◌, List, [], ◌∷◌, length, sym, ap, ◌∙◌, arith}
use Rattle.wire_core.specs.declared.tag.Tag.TheVariants.{Roster as RosterTag}
use Rattle.wire_core.specs.Hash.{Collides, hashed, ArePieces}
use Rattle.wire_core.proofs.Hashed.{collide_or_same}
use Rattle.group_roster.specs.Roster.{Roster, IsRosterForm, roster_spelling}
use Rattle.group_roster.specs.Binary.{keys_at, size_of}
use Rattle.group_roster.specs.Ids.{IdsDetermine}
use Rattle.group_roster.proofs.Rosters.{spelled_keys, spelled_length}

abbrev roster : ℕ → List (List ℕ) → Roster
roster version keys = record { version = version; keys = keys }

-- one spelling is of one roster
pub spelled-same : (r s : Roster) → IsRosterForm r → IsRosterForm s → roster_spelling r ≡ roster_spelling s → r ≡ s
spelled-same r s form form' e =
    let versions : r.version ≡ s.version = form.version ∙ sym form'.version in
    let keys : r.keys ≡ s.keys = sym (spelled_keys r form) ∙ ap (λ (bytes : List ℕ). keys_at bytes (size_of bytes)) e
    ∙ spelled_keys s form' in
    ap (λ (v : ℕ). roster v r.keys) versions ∙ ap (λ (ks : List (List ℕ)). roster s.version ks) keys

one_piece : (a b : List ℕ) → a ∷ [] ≡ b ∷ [] → a ≡ b
one_piece a b e = cc

short : (r : Roster) → IsRosterForm r → length (roster_spelling r) < 2 ^ 32
short r form = omega (arith, spelled_length r form, form.most)

pub ids_determine : IdsDetermine
ids_determine r s form form' e =
    elim (collide_or_same RosterTag RosterTag (roster_spelling r ∷ []) (roster_spelling s ∷ []) (short r form, tt) (short s form', tt) e) [
      | inl same ↦ inl (spelled-same r s form form' (one_piece (roster_spelling r) (roster_spelling s) same.1))
      | inr collide ↦ inr collide
    ]
