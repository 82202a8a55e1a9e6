-- Plain words are read with the values that stand in them.
use Rattle.std.proofs.Common.{◌≡◌, ◌∙◌, ◌&&◌, ◌||◌, ◌<◌, ℕ, Bool, cond, suc, zero, true, false, not, refl, sym, ap, List, [], ◌∷◌, ◌++◌, map, length, Some, is_some, codes, true≢false, arith, append-nil, eqb-true}
use Rattle.std.specs.Prelude.{◌==◌, bytes_eq, find, fold, option_map, option_and_then, unwrap_or, IsPermutation}
use Rattle.std.specs.Option.{option_map_or}
use Rattle.std.specs.List.{All, AllByRecursion, Contains, IsDistinct, list_all, list_any, slice_index_or}
use Rattle.std.proofs.lemmas.List.Elements.{All-contains, All-contains_itself, All-from_recursion, All-weaker, recursion_from_All}
use Rattle.std.proofs.lemmas.List.Sorted.{All-permutation, Contains-permutation, IsPermutation-sym}
use Rattle.std.proofs.lemmas.Map.Keys.{IsDistinct-IsPermutation, IsDistinct-head, IsDistinct-tail}
use Rattle.std.proofs.lemmas.Slice.Eq.{bytes_eq-Decides}
use Rattle.clap.specs.Walk.{Row, Rule, Walk, all_of, finished, first_of, has_row, idle, is_empty, nothing_held, rows_after, settled, walk_from, with_default}
use Rattle.clap.specs.Simple.{matches_of, names_of, entered}
use Rattle.clap.specs.Faults.{built_fault, check_fault, defaults_fault, entered_fault, fault_of, settle_fault, walk_fault}
use Rattle.clap.specs.Takes.{is_given}
use Rattle.clap.specs.Facts.{explicit_source}
use Rattle.clap.specs.Kinds.{Kinds, or_else}
use Rattle.dissent_words.specs.Request.{Text}
use Rattle.dissent_words.specs.Forms.{Form, app_with, form_named, forms, given_by, given_in, keygen_form, roster_form, show_form, judge_form, group_form, make_form, member_form, live_form, request_by, requested, values_in}
use Rattle.dissent_words.specs.Laws.{PlainWordsAreRead}
use Rattle.dissent_words.specs.Plain.{Use, IsPlain, given_plainly, is_value, spelled, value_in}
use Rattle.dissent_words.proofs.Rules.{built_app, built_is, built_option, last_rules, neither, or_true, rules, second, shape}
use Rattle.dissent_words.proofs.Walking.{AreApart, AreNew, Ends, IsGood, address_row, addresses_go, is_name, row_of, rows_at, standing, uses_go}

-- ---- at the end of the walk

either : {A : Type 0} (b : Bool) (x : A) → cond b x x ≡ x
either true x = refl
either false x = refl

no_defaults : (os : List Text) (b : Bool) (rows : List Row) → fold with_default rows (rules os b) ≡ rows
no_defaults [] true rows = either (has_row (codes "address") rows) rows
no_defaults [] false rows = refl
no_defaults (o ∷ os) b rows = ap (λ rs. fold with_default rs (rules os b)) (either (has_row o rows) rows) ∙ no_defaults os b rows

no_default_faults : (os : List Text) (b : Bool) (rows : List Row) → defaults_fault rows (rules os b) ≡ []
unfolding defaults_fault
no_default_faults [] true rows = rw (or_true (has_row (codes "address") rows)) refl
no_default_faults [] false rows = refl
no_default_faults (o ∷ os) b rows =
    rw (or_true (has_row o rows), either (has_row o rows) rows) (no_default_faults os b rows)

abbrev is_missing : List Row → Rule → Bool
is_missing rows a = a.required && not (is_given a.id rows)

none_missing : (os : List Text) (last : List Rule) (rows : List Row) → AllByRecursion (λ o. is_given o rows ≡ true) os → list_any (is_missing rows) last ≡ false
    → list_any (is_missing rows) (map built_option os ++ last) ≡ false
none_missing [] last rows given ends = ends
none_missing (o ∷ os) last rows given ends =
    ap (λ q. not q || list_any (is_missing rows) (map built_option os ++ last)) given.0 ∙ none_missing os last rows given.1 ends

no_kinds : (a b c d : Kinds) → a ≡ [] → b ≡ [] → c ≡ [] → d ≡ [] → or_else a (or_else [] (or_else b (or_else c d))) ≡ []
no_kinds a b c d ea eb ec ed = rw (ea, eb, ec, ed) refl

module _ (os : List Text) (b : Bool) (words : List Text) (rows : List Row) (ends : Ends os b (walk_from nothing_held) words rows) where
  abbrev kinds_after : Walk → Kinds
  kinds_after w = or_else (walk_fault (shape os b) [] (walk_from nothing_held) words)
      (or_else (entered_fault (built_app os b) w.stopped) (or_else (settle_fault (rules os b) false w.held)
      (or_else (defaults_fault (settled (rules os b) w.held).rows (rules os b))
      (check_fault (shape os b) (finished (rules os b) w.held) (is_some (entered (built_app os b) w.stopped))))))

  finished_is : finished (rules os b) ends.held ≡ rows
  finished_is = no_defaults os b (rows_at os b ends.held) ∙ ends.has

  no_fault : list_any (is_missing rows) (rules os b) ≡ false → fault_of (app_with os b) words ≡ []
  no_fault none =
      let whole : fault_of (app_with os b) words ≡ built_fault (built_app os b) nothing_held words =
      ap (λ a. built_fault a nothing_held words) (built_is os b) in
      let opened : built_fault (built_app os b) nothing_held words ≡ kinds_after (standing ends.waiting ends.held) = ap kinds_after ends.walk in
      let checked : check_fault (shape os b) (finished (rules os b) ends.held) false ≡ [] =
      ap (λ rs. check_fault (shape os b) rs false) finished_is ∙ rw none refl in
      whole ∙ opened ∙ no_kinds _ _ _ _ ends.faults ends.clean (no_default_faults os b _) checked

  matches_are : matches_of (app_with os b) words ≡ rows
  matches_are =
      let built_rows : matches_of (app_with os b) words ≡ rows_after (rules os b) [] words =
      ap (λ a. rows_after a.top.rules (names_of a) words) (built_is os b) in
      built_rows ∙ ap (λ w. finished (rules os b) w.held) ends.walk ∙ finished_is

  given_is : list_any (is_missing rows) (rules os b) ≡ false → given_by os b words ≡ given_in os rows
  unfolding given_by
  given_is none = rw (no_fault none, matches_are) refl

-- ---- what stands in the rows

-- each option with its value
first_is : (us : List Use) (t : List Row) (o : Text) → list_any (λ x. bytes_eq x o) (map (λ u. u.option) us) ≡ true
    → (first_of o (map row_of us ++ t) ≡ Some (value_in us o)) × (is_given o (map row_of us ++ t) ≡ true)
first_is [] t o any = absurd (true≢false (sym any))
first_is (u ∷ us) t o any = go (bytes_eq u.option o) refl (first_is us t o)
  where
    go : (b : Bool) → bytes_eq u.option o ≡ b → (list_any (λ x. bytes_eq x o) (map (λ x. x.option) us) ≡ true
        → (first_of o (map row_of us ++ t) ≡ Some (value_in us o)) × (is_given o (map row_of us ++ t) ≡ true))
        → (first_of o (map row_of (u ∷ us) ++ t) ≡ Some (value_in (u ∷ us) o)) × (is_given o (map row_of (u ∷ us) ++ t) ≡ true)
    go true e below = (rw e refl, rw e refl)
    go false e below =
        let rest = below (second (bytes_eq u.option o) _ e any) in
        (rw e rest.0, rw e rest.1)

values_are : (us : List Use) (t : List Row) (os : List Text) → AllByRecursion (λ o. list_any (λ x. bytes_eq x o) (map (λ u. u.option) us) ≡ true) os
    → values_in (map row_of us ++ t) os ≡ Some (map (value_in us) os)
values_are us t [] all = refl
values_are us t (o ∷ os) all = rw ((first_is us t o all.0).0, values_are us t os all.1) refl

all_given : (us : List Use) (t : List Row) (os : List Text) → AllByRecursion (λ o. list_any (λ x. bytes_eq x o) (map (λ u. u.option) us) ≡ true) os
    → AllByRecursion (λ o. is_given o (map row_of us ++ t) ≡ true) os
all_given us t [] all = tt
all_given us t (o ∷ os) all = ((first_is us t o all.0).1, all_given us t os all.1)

-- no option is called as the addresses are
abbrev NoAddress : List Use → Type 0
NoAddress us = AllByRecursion (λ u. bytes_eq u.option (codes "address") ≡ false) us

past_options : (us : List Use) (t : List Row) → NoAddress us
    → find (λ r. bytes_eq r.id (codes "address")) (map row_of us ++ t) ≡ find (λ r. bytes_eq r.id (codes "address")) t
past_options [] t none = refl
past_options (u ∷ us) t none =
    ap (λ q. cond q (Some (row_of u)) (find (λ r. bytes_eq r.id (codes "address")) (map row_of us ++ t))) none.0 ∙ past_options us t none.1

no_address_row : (us : List Use) → NoAddress us → has_row (codes "address") (map row_of us) ≡ false
no_address_row [] none = refl
no_address_row (u ∷ us) none = ap (λ q. q || has_row (codes "address") (map row_of us)) none.0 ∙ no_address_row us none.1

-- ---- the options of a form

-- no two are equal
abbrev are_distinct : List Text → Bool
are_distinct [] = true
are_distinct (o ∷ os) = not (list_any (λ x. bytes_eq o x) os) && are_distinct os

-- the options of a form can be told apart, by clap too
abbrev can_be_told : List Text → Bool
can_be_told os = list_all is_name os && (not (list_any (λ x. bytes_eq x (codes "address")) os) && are_distinct os)

both : (a b : Bool) → (a && b) ≡ true → (a ≡ true) × (b ≡ true)
both true b e = (refl, e)
both false b e = absurd (true≢false (sym e))

is_false : (b : Bool) → not b ≡ true → b ≡ false
is_false true e = absurd (true≢false (sym e))
is_false false e = refl

none_by_recursion : (p : Text → Bool) (os : List Text) → list_any p os ≡ false → AllByRecursion (λ o. p o ≡ false) os
none_by_recursion p [] e = tt
none_by_recursion p (o ∷ os) e =
    let parts = neither (p o) (list_any p os) e in
    (parts.0, none_by_recursion p os parts.1)

all_by_recursion : (p : Text → Bool) (os : List Text) → list_all p os ≡ true → AllByRecursion (λ o. p o ≡ true) os
all_by_recursion p [] e = tt
all_by_recursion p (o ∷ os) e =
    let parts = both (p o) (list_all p os) e in
    (parts.0, all_by_recursion p os parts.1)

distinct : (os : List Text) → are_distinct os ≡ true → IsDistinct bytes_eq os
unfolding IsDistinct
distinct [] e = tt
distinct (o ∷ os) e =
    let parts = both (not (list_any (λ x. bytes_eq o x) os)) (are_distinct os) e in
    (none_by_recursion (λ x. bytes_eq o x) os (is_false _ parts.0), distinct os parts.1)

flips : (x y : Text) → bytes_eq x y ≡ bytes_eq y x
flips x y = go (bytes_eq x y) (bytes_eq y x) refl refl
  where
    go : (a b : Bool) → bytes_eq x y ≡ a → bytes_eq y x ≡ b → a ≡ b
    go true true e f = refl
    go false false e f = refl
    go true false e f = sym ((bytes_eq-Decides y x).1 (sym ((bytes_eq-Decides x y).0 e))) ∙ f
    go false true e f = sym e ∙ (bytes_eq-Decides x y).1 (sym ((bytes_eq-Decides y x).0 f))

contains_any : (os : List Text) (o : Text) → Contains os o → list_any (λ x. bytes_eq x o) os ≡ true
contains_any os o has = at os has.0 has.1 has.2
  where
    at : (xs : List Text) (k : ℕ) → k < length xs → slice_index_or xs k o ≡ o → list_any (λ x. bytes_eq x o) xs ≡ true
    at [] k below is = absurd (omega arith)
    at (x ∷ xs) zero below is = ap (λ q. q || list_any (λ y. bytes_eq y o) xs) ((bytes_eq-Decides x o).1 is)
    at (x ∷ xs) (suc k) below is = ap (λ q. bytes_eq x o || q) (at xs k (omega arith) is) ∙ or_true (bytes_eq x o)

-- what a permutation of options has, each of them has
any_of : (xs ys : List Text) → IsPermutation xs ys → AllByRecursion (λ o. list_any (λ x. bytes_eq x o) xs ≡ true) ys
any_of xs ys moved = recursion_from_All _ ys (All-weaker (Contains ys) _
    (λ o has. contains_any xs o (Contains-permutation ys xs o (IsPermutation-sym xs ys moved) has)) ys (All-contains_itself ys))

of_uses : (P : Text → Type 0) (us : List Use) → AllByRecursion P (map (λ u. u.option) us) → AllByRecursion (λ u. P u.option) us
of_uses P [] all = tt
of_uses P (u ∷ us) all = (all.0, of_uses P us all.1)

good_uses : (os : List Text) (b : Bool) (us : List Use) → AllByRecursion (λ u. list_any (λ x. bytes_eq x u.option) os ≡ true) us
    → AllByRecursion (λ u. is_name u.option ≡ true) us → AllByRecursion (λ u. is_value u.value ≡ true) us → AllByRecursion (IsGood os b) us
good_uses os b [] known named good = tt
good_uses os b (u ∷ us) known named good = ((known.0, named.0, good.0), good_uses os b us known.1 named.1 good.1)

apart : (os : List Text) (b : Bool) (us : List Use) → IsDistinct bytes_eq (map (λ u. u.option) us) → AreApart os b us
apart os b [] d = tt
apart os b (u ∷ us) d = (IsDistinct-head bytes_eq u.option (map (λ x. x.option) us) d, apart os b us (IsDistinct-tail bytes_eq u.option (map (λ x. x.option) us) d))

all_new : (os : List Text) (b : Bool) (us : List Use) → AreNew os b us []
all_new os b [] = tt
all_new os b (u ∷ us) = (refl, all_new os b us)

-- ---- plain words

nothing_more : (os : List Text) (b : Bool) (w : Walk) → walk_fault (shape os b) [] w [] ≡ []
unfolding walk_fault
nothing_more os b w = refl

longer : (w : Text) (ws : List Text) → is_empty (w ∷ ws) ≡ false
longer w ws = go (length (w ∷ ws) == 0) refl
  where
    go : (b : Bool) → (length (w ∷ ws) == 0) ≡ b → b ≡ false
    go false e = refl
    go true e = absurd (omega (arith, eqb-true (length (w ∷ ws)) 0 e))

in_all : (os vs : List Text) (rows : List Row) (ws : List Text) → values_in rows os ≡ Some vs → unwrap_or (all_of (codes "address") rows) [] ≡ ws
    → given_in os rows ≡ Some (record { values = vs; addresses = ws })
in_all os vs rows ws values addresses = rw (values, addresses) refl

module _ (os : List Text) (told : can_be_told os ≡ true) (us : List Use) (moved : IsPermutation (map (λ u. u.option) us) os)
    (good : All (λ u. is_value u.value ≡ true) us) where
  abbrev names : List Text
  names = map (λ u. u.option) us

  told_parts : (list_all is_name os ≡ true) × ((not (list_any (λ x. bytes_eq x (codes "address")) os) && are_distinct os) ≡ true)
  told_parts = both (list_all is_name os) _ told

  apart_parts : (not (list_any (λ x. bytes_eq x (codes "address")) os) ≡ true) × (are_distinct os ≡ true)
  apart_parts = both (not (list_any (λ x. bytes_eq x (codes "address")) os)) (are_distinct os) told_parts.1

  no_address : list_any (λ x. bytes_eq x (codes "address")) os ≡ false
  no_address = is_false _ apart_parts.0

  over : (P : Text → Type 0) → AllByRecursion P os → AllByRecursion (λ u. P u.option) us
  over P all = of_uses P us (recursion_from_All P names
      (All-permutation P os names (IsPermutation-sym names os moved) (All-from_recursion P os all)))

  uses_good : (b : Bool) → AllByRecursion (IsGood os b) us
  uses_good b = good_uses os b us (of_uses _ us (any_of os names (IsPermutation-sym names os moved)))
      (over (λ o. is_name o ≡ true) (all_by_recursion is_name os told_parts.0)) (recursion_from_All _ us good)

  uses_apart : (b : Bool) → AreApart os b us
  uses_apart b = apart os b us (IsDistinct-IsPermutation bytes_eq flips os names (IsPermutation-sym names os moved) (distinct os apart_parts.1))

  unlike_addresses : NoAddress us
  unlike_addresses = over (λ o. bytes_eq o (codes "address") ≡ false) (none_by_recursion _ os no_address)

  values : (t : List Row) → values_in (map row_of us ++ t) os ≡ Some (map (value_in us) os)
  values t = values_are us t os (any_of names os moved)

  all_there : (t : List Row) → AllByRecursion (λ o. is_given o (map row_of us ++ t) ≡ true) os
  all_there t = all_given us t os (any_of names os moved)

  -- without addresses
  given_without : given_by os false (spelled us []) ≡ Some (record { values = map (value_in us) os; addresses = [] })
  given_without =
      let walked_there = uses_go os false us nothing_held [] (uses_good false) (uses_apart false) (all_new os false us) refl refl in
      let ends : Ends os false (walk_from nothing_held) (spelled us []) (map row_of us ++ []) = record {
        waiting = idle;
        held = walked_there.held;
        walk = walked_there.walk [];
        faults = walked_there.faults [] ∙ nothing_more os false (standing idle walked_there.held);
        has = walked_there.has ∙ sym (append-nil (map row_of us));
        clean = walked_there.clean;
      } in
      let none : list_any (is_missing (map row_of us ++ [])) (rules os false) ≡ false =
      none_missing os [] (map row_of us ++ []) (all_there []) refl in
      given_is os false (spelled us []) (map row_of us ++ []) ends none
      ∙ in_all os _ (map row_of us ++ []) _ (values []) (ap (λ r. unwrap_or (option_map (λ x. x.values) r) []) (past_options us [] unlike_addresses))

  -- with addresses
  given_with : (w : Text) (ws : List Text) → AllByRecursion (λ x. is_value x ≡ true) (w ∷ ws)
      → given_by os true (spelled us (w ∷ ws)) ≡ Some (record { values = map (value_in us) os; addresses = w ∷ ws })
  given_with w ws fine =
      let walked_there = uses_go os true us nothing_held [] (uses_good true) (uses_apart true) (all_new os true us) refl refl in
      let more = addresses_go os no_address w ws walked_there.held (map row_of us) fine (no_address_row us unlike_addresses) walked_there.has walked_there.clean in
      let last : List Row = address_row (w ∷ ws) ∷ [] in
      let ends : Ends os true (walk_from nothing_held) (spelled us (w ∷ ws)) (map row_of us ++ last) = record {
        waiting = more.waiting;
        held = more.held;
        walk = walked_there.walk (w ∷ ws) ∙ more.walk;
        faults = walked_there.faults (w ∷ ws) ∙ more.faults;
        has = more.has;
        clean = more.clean;
      } in
      let there : is_given (codes "address") (map row_of us ++ last) ≡ true =
      ap (λ r. option_map_or (λ x. explicit_source x.source) r false) (past_options us last unlike_addresses) in
      let none : list_any (is_missing (map row_of us ++ last)) (rules os true) ≡ false =
      none_missing os (last_rules true) (map row_of us ++ last) (all_there last) (rw there refl) in
      given_is os true (spelled us (w ∷ ws)) (map row_of us ++ last) ends none
      ∙ in_all os _ (map row_of us ++ last) _ (values last) (ap (λ r. unwrap_or (option_map (λ x. x.values) r) []) (past_options us last unlike_addresses))

-- a form whose plain words are read
abbrev ReadsPlain : Form → Type 0
ReadsPlain form = (uses : List Use) (addresses : List Text) → IsPlain form uses addresses
    → requested (form.name ∷ spelled uses addresses) ≡ form.request (given_plainly form uses addresses)

reads_plain : (form : Form) → can_be_told form.options ≡ true → form_named form.name ≡ Some form → ReadsPlain form
reads_plain form told named uses addresses plain =
    ap (λ f. option_and_then (λ x. request_by x (spelled uses addresses)) f) named
    ∙ ap (λ g. option_and_then form.request g) (by_kind form.takes_addresses addresses plain.number (recursion_from_All _ addresses plain.address_values))
  where
    by_kind : (b : Bool) (ws : List Text) → is_empty ws ≡ not b → AllByRecursion (λ w. is_value w ≡ true) ws
        → given_by form.options b (spelled uses ws) ≡ Some (record { values = map (value_in uses) form.options; addresses = ws })
    by_kind false [] number fine = given_without form.options told uses plain.once plain.option_values
    by_kind false (w ∷ ws) number fine = absurd (true≢false (sym number ∙ longer w ws))
    by_kind true [] number fine = absurd (true≢false number)
    by_kind true (w ∷ ws) number fine = given_with form.options told uses plain.once plain.option_values w ws fine

pub plain_words_are_read : PlainWordsAreRead
plain_words_are_read form uses addresses known plain = All-contains ReadsPlain forms form (All-from_recursion ReadsPlain forms (
  reads_plain keygen_form refl refl,
  (
    reads_plain roster_form refl refl,
    (
      reads_plain show_form refl refl,
      (
        reads_plain judge_form refl refl,
        (
          reads_plain group_form refl refl,
          (
            reads_plain make_form refl refl,
            (
              reads_plain member_form refl refl,
              (reads_plain live_form refl refl, tt),
            ),
          ),
        ),
      ),
    ),
  ),
)) known uses addresses plain
