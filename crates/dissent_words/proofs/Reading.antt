-- What the command that clap gets is, and what is read of its matches.
use Rattle.std.proofs.Common.{◌≡◌, ◌∙◌, ◌+◌, ◌<◌, inl, inr, ℕ, suc, Bool, true, false, true≢false, refl, sym, ap, subst, List, [], ◌∷◌, ◌++◌, map, length, take, drop, Option, Some, None, if◌then◌else◌, arith, append-nil, append_assoc, drop-cons, eqb-true, ◌==◌}
use Rattle.std.specs.Prelude.{option_map, option_and_then, slice_index_or, unwrap_or, codes, Result, Ok, Err, IfOk}
use Rattle.std.specs.Global.{Vec}
use Rattle.std.specs.Borrow.{Bor}
use Rattle.std.proofs.lemmas.List.{map_push, take_more}
use Rattle.clap.specs.Walk.{Row, all_of, first_of, is_empty, rows_of}
use Rattle.clap.specs.Matches.{first_value, matched_of, raw_values}
use Rattle.clap.specs.declared.parser.matches.Found.{Found}
use Rattle.clap.proofs.WalkLemmas.{first_value-rows, raw_values-rows}
use Rattle.clap.specs.Simple.{App, is_simple, matches_of, with_rule}
use Rattle.clap.specs.Faults.{fault_of, is_simple_and_free}
use Rattle.clap.specs.Kinds.{HasKind, IsAmong, Kinds}
use Rattle.clap.specs.Values.{kind_of}
use Rattle.clap.specs.declared.error.Error.{Error}
use Rattle.clap.specs.declared.error.kind.ErrorKind.{ErrorKind}
use Rattle.dissent_words.specs.declared.refusal.WordsRefusal.{WordsRefusal}
use Rattle.dissent_words.specs.declared.refusal.WordsRefusal.TheVariants.{Usage, Memory}
use Rattle.dissent_words.specs.Request.{Text}
use Rattle.dissent_words.specs.Views.{refusal_for}
use Rattle.dissent_words.specs.Forms.{Given, app_with, option_rule, address_rule, given_by, given_in, values_in}
use Rattle.dissent_words.proofs.Rules.{simple, simple_and_free}

abbrev pub seen : List (Bor Text) → List Text
seen = map (λ value. value.now)

-- one option more
pub one_more : (xs : List (Bor Text)) (i : ℕ) (d : Bor Text) → i < length xs
    → with_rule (app_with (seen (take i xs)) false) (option_rule (slice_index_or xs i d).now) ≡ app_with (seen (take (i + 1) xs)) false
one_more xs i d below =
    let x : Bor Text = slice_index_or xs i d in
    let next : seen (take (i + 1) xs) ≡ seen (take i xs) ++ x.now ∷ [] =
    ap seen (take_more xs i d below) ∙ map_push (λ (v : Bor Text). v.now) (take i xs) x in
    let shape = λ (rs : _). record (app_with [] false) { top = record (app_with [] false).top { rules = rs } } in
    ap shape (ap (λ rs. rs ++ option_rule x.now ∷ []) (append-nil (map option_rule (seen (take i xs))))
    ∙ sym (map_push option_rule (seen (take i xs)) x.now) ∙ sym (append-nil (map option_rule (seen (take i xs) ++ x.now ∷ []))))
    ∙ ap (λ os. app_with os false) (sym next)

-- the addresses behind them
pub and_addresses : (os : List Text) → with_rule (app_with os false) address_rule ≡ app_with os true
and_addresses os =
    let shape = λ (rs : _). record (app_with [] false) { top = record (app_with [] false).top { rules = rs } } in
    ap (λ rs. shape (rs ++ address_rule ∷ [])) (append-nil (map option_rule os))

-- ---- the values

-- what is read so far, and what is left to read
abbrev pub IsReading : List Row → List (Bor Text) → ℕ → List (Bor Text) → Type 0
IsReading rows options i values =
    values_in rows (seen options) ≡ option_map (λ rest. seen values ++ rest) (values_in rows (seen (drop i options)))

pub none_read : (rows : List Row) (options : List (Bor Text)) → IsReading rows options 0 []
none_read rows options = go (values_in rows (seen options))
  where
    go : (o : Option (List Text)) → o ≡ option_map (λ rest. [] ++ rest) o
    go None = refl
    go (Some vs) = refl

next_value : (rows : List Row) (options : List (Bor Text)) (i : ℕ) (d : Bor Text) → i < length options
    → values_in rows (seen (drop i options)) ≡ option_and_then (λ value. option_map (λ vs. value ∷ vs) (values_in rows (seen (drop (i + 1) options))))
    (first_of (slice_index_or options i d).now rows)
next_value rows options i d below =
    let next : i + 1 ≡ suc i = omega arith in
    ap (λ l. values_in rows (seen l)) (drop-cons options i d below)
    ∙ ap (λ n. values_in rows ((slice_index_or options i d).now ∷ seen (drop n options))) (sym next)

pub one_read : (f : Found) (options values : List (Bor Text)) (i : ℕ) (d v : Bor Text) → i < length options
    → Some v.now ≡ first_value f (slice_index_or options i d).now → IsReading (rows_of f) options i values → IsReading (rows_of f) options (i + 1) (values ++ v ∷ [])
one_read f options values i d v below got before =
    let rows : List Row = rows_of f in
    let is : Some v.now ≡ first_of (slice_index_or options i d).now rows = got ∙ first_value-rows f (slice_index_or options i d).now in
    before ∙ ap (option_map (λ rest. seen values ++ rest)) (next_value rows options i d below ∙ ap (option_and_then _) (sym is))
    ∙ go (values_in rows (seen (drop (i + 1) options)))
  where
    go : (o : Option (List Text)) → option_map (λ rest. seen values ++ rest) (option_map (λ vs. v.now ∷ vs) o) ≡ option_map (λ rest. seen (values ++ v ∷ []) ++ rest) o
    go None = refl
    go (Some vs) = ap Some (sym (append_assoc (seen values) (v.now ∷ []) vs) ∙ ap (λ l. l ++ vs) (sym (map_push (λ (y : Bor Text). y.now) values v)))

pub none_there : (f : Found) (options values : List (Bor Text)) (i : ℕ) (d : Bor Text) → i < length options
    → None ≡ first_value f (slice_index_or options i d).now → IsReading (rows_of f) options i values → values_in (rows_of f) (seen options) ≡ None
none_there f options values i d below got before =
    let rows : List Row = rows_of f in
    let is : None ≡ first_of (slice_index_or options i d).now rows = got ∙ first_value-rows f (slice_index_or options i d).now in
    before ∙ ap (option_map (λ rest. seen values ++ rest)) (next_value rows options i d below ∙ ap (option_and_then _) (sym is))

pub all_read : (rows : List Row) (options values : List (Bor Text)) (i : ℕ) → drop i options ≡ [] → IsReading rows options i values
    → values_in rows (seen options) ≡ Some (seen values)
all_read rows options values i past before =
    before ∙ ap (λ l. option_map (λ rest. seen values ++ rest) (values_in rows (seen l))) past ∙ ap Some (append-nil (seen values))

-- ---- the words

abbrev is_usage : WordsRefusal → Bool
is_usage Usage = true
is_usage Memory = false

longer : (ks : Kinds) → 0 < length ks → is_empty ks ≡ false
longer ks more = go (length ks == 0) refl
  where
    go : (b : Bool) → (length ks == 0) ≡ b → b ≡ false
    go false e = refl
    go true e = absurd (omega (arith, eqb-true (length ks) 0 e))

memory≢usage : Memory ≡ Usage → ⊥
memory≢usage m = true≢false (sym (ap is_usage m))

some_kind : (k : ErrorKind) (ks : Kinds) → IsAmong k ks → is_empty ks ≡ false
some_kind k [] h = absurd h
some_kind k (x ∷ ks) h = longer (x ∷ ks) (omega arith)

module _ (os : List Text) (b : Bool) (words : List Text) where
  refused_so : (error : Error) (e : WordsRefusal) → HasKind (fault_of (app_with os b) words) error → e ≡ refusal_for (kind_of error) → e ≡ Usage
      → given_by os b words ≡ None
  unfolding given_by
  refused_so error e has from usage = elim has [
    | inl memory ↦ absurd (memory≢usage (sym (ap refusal_for memory) ∙ sym from ∙ usage))
    | inr among ↦ ap (λ q. if q then given_in os (matches_of (app_with os b) words) else None) (some_kind (kind_of error) (fault_of (app_with os b) words) among)
  ]

  taken_so : (rows : List Row) → fault_of (app_with os b) words ≡ [] → rows ≡ matches_of (app_with os b) words → given_by os b words ≡ given_in os rows
  unfolding given_by
  taken_so rows none is = rw (none, is) refl

  -- clap refuses the words
  pub refused : (a : App) → a ≡ app_with os b → (error : Error) (e : WordsRefusal) → (is_simple_and_free a ≡ true → HasKind (fault_of a words) error)
      → e ≡ refusal_for (kind_of error) → e ≡ Usage → given_by os b words ≡ None
  refused a is error e has = refused_so error e
      (subst (λ (x : App). HasKind (fault_of x words) error) is (has (ap is_simple_and_free is ∙ simple_and_free os b)))

  -- clap refuses nothing: what is given stands in the rows
  pub taken : (a : App) → a ≡ app_with os b → (rows : List Row) → (is_simple_and_free a ≡ true → fault_of a words ≡ [])
      → (is_simple a ≡ true → rows ≡ matches_of a words) → given_by os b words ≡ given_in os rows
  taken a is rows none matches = taken_so rows (sym (ap (λ x. fault_of x words) is) ∙ none (ap is_simple_and_free is ∙ simple_and_free os b))
      (matches (ap is_simple is ∙ simple os b) ∙ ap (λ x. matches_of x words) is)

pub values_refused : (os : List Text) (rows : List Row) (given : Option Given) → given ≡ given_in os rows → values_in rows os ≡ None → given ≡ None
values_refused os rows given is none = is ∙ ap (option_map _) none

pub all_given : (os vs ws : List Text) (rows : List Row) (given : Option Given) → given ≡ given_in os rows → values_in rows os ≡ Some vs
    → ws ≡ unwrap_or (all_of (codes "address") rows) [] → given ≡ Some (record { values = vs; addresses = ws })
all_given os vs ws rows given is values addresses = is ∙ rw (values, ← addresses) refl

-- ---- the addresses

pub some_addresses : {E : Type 0} (f : Found) (found : List (Bor Text)) (made : Result (Vec (Bor Text)) E) → IfOk made (λ v. v.items ≡ found)
    → Some (seen found) ≡ option_map raw_values (matched_of f (codes "address"))
    → IfOk made (λ v. seen v.items ≡ unwrap_or (all_of (codes "address") (rows_of f)) [])
some_addresses f found (Ok v) items is = ap seen items ∙ ap (λ o. unwrap_or o []) (is ∙ raw_values-rows f (codes "address"))
some_addresses f found (Err e) items is = tt

pub no_addresses : (f : Found) (made : List (Bor Text)) → made ≡ [] → None ≡ option_map raw_values (matched_of f (codes "address"))
    → seen made ≡ unwrap_or (all_of (codes "address") (rows_of f)) []
no_addresses f made none is = ap seen none ∙ ap (λ o. unwrap_or o []) (is ∙ raw_values-rows f (codes "address"))
