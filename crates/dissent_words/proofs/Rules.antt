-- The rules of clap's command when it is built, and what they find by a name.
use Rattle.std.proofs.Common.{◌≡◌, ◌∙◌, ◌&&◌, ◌||◌, Bool, cond, true, false, not, refl, sym, ap, List, [], ◌∷◌, ◌++◌, map, Some, is_some, codes, true≢false, if◌then◌else◌}
use Rattle.std.specs.Prelude.{◌==◌, bytes_eq, find}
use Rattle.std.specs.Option.{option_map_or}
use Rattle.std.specs.List.{list_all, list_any, count_by}
use Rattle.std.proofs.lemmas.Slice.Eq.{bytes_eq-Decides}
use Rattle.clap.specs.Walk.{Rule, arg_by_id, arg_by_index, arg_by_long, has_long, is_early_multiple}
use Rattle.clap.specs.Simple.{App, Shape, built, filled, filled_from, is_buildable, is_in_order, is_ready, is_ready_leaf, is_simple, new_shape, with_index}
use Rattle.clap.specs.Faults.{is_free_app, is_simple_and_free}
use Rattle.dissent_words.specs.Request.{Text}
use Rattle.dissent_words.specs.Forms.{option_rule, address_rule, app_with}

pub same : (x y : Text) → bytes_eq x y ≡ true → x ≡ y
same x y = (bytes_eq-Decides x y).0

pub self : (x : Text) → bytes_eq x x ≡ true
self x = (bytes_eq-Decides x x).1 refl

pub or_false : (b : Bool) → (b || false) ≡ b
or_false true = refl
or_false false = refl

pub or_true : (b : Bool) → (b || true) ≡ true
or_true true = refl
or_true false = refl

pub and_false : (b : Bool) → (b && false) ≡ false
and_false true = refl
and_false false = refl

pub neither : (a b : Bool) → (a || b) ≡ false → (a ≡ false) × (b ≡ false)
neither true b e = absurd (true≢false e)
neither false b e = (refl, e)

pub second : (a b : Bool) → a ≡ false → (a || b) ≡ true → b ≡ true
second a b e h = ap (λ x. x || b) (sym e) ∙ h

-- ---- what building makes of the rules

abbrev pub built_option : Text → Rule
built_option o = filled (option_rule o)

abbrev pub built_address : Rule
built_address = with_index 1 (filled address_rule)

abbrev pub last_rules : Bool → List Rule
last_rules b = if b then built_address ∷ [] else []

abbrev pub rules : (os : List Text) → (b : Bool) → List Rule
rules os b = map built_option os ++ last_rules b

built_rules : (os : List Text) (b : Bool) → filled_from 1 (map option_rule os ++ (if b then address_rule ∷ [] else [])) ≡ rules os b
built_rules [] true = refl
built_rules [] false = refl
built_rules (o ∷ os) b = ap (λ rest. built_option o ∷ rest) (built_rules os b)

abbrev pub shape : (os : List Text) → (b : Bool) → Shape
shape os b = record (new_shape (codes "dissent")) {
  rules = rules os b;
  no_binary_name = true;
  disable_help_flag = true;
  disable_help_subcommand = true;
  disable_version_flag = true;
  is_built = true;
}

abbrev pub built_app : (os : List Text) → (b : Bool) → App
built_app os b = record { top = shape os b; subs = [] }

pub built_is : (os : List Text) (b : Bool) → built (app_with os b) ≡ built_app os b
built_is os b = ap (λ rs. record { top = record (shape os b) { rules = rs }; subs = [] }) (built_rules os b)

-- ---- the command is simple

all_pass : (p : Rule → Bool) (f : Text → Rule) (t : List Rule) → ((o : Text) → p (f o) ≡ true) → list_all p t ≡ true
    → (os : List Text) → list_all p (map f os ++ t) ≡ true
all_pass p f t each last [] = last
all_pass p f t each last (o ∷ os) = rw (each o) (all_pass p f t each last os)

none_passes : (p : Rule → Bool) (f : Text → Rule) (t : List Rule) → ((o : Text) → p (f o) ≡ false) → list_any p t ≡ false
    → (os : List Text) → list_any p (map f os ++ t) ≡ false
none_passes p f t each last [] = last
none_passes p f t each last (o ∷ os) = rw (each o) (none_passes p f t each last os)

one_positional : (os : List Text) → count_by (λ a. is_some a.index) (rules os true) ≡ 1
one_positional [] = refl
one_positional (o ∷ os) = one_positional os

in_order : (os : List Text) (b : Bool) → is_in_order (rules os b) ≡ true
in_order os true =
    let none : list_any (is_early_multiple 1) (rules os true) ≡ false =
    none_passes (is_early_multiple 1) built_option (last_rules true) (λ o. refl) refl os in
    ap (λ n. not (list_any (is_early_multiple n) (rules os true))) (one_positional os) ∙ ap not none
in_order os false = ap not (none_passes (is_early_multiple (count_by (λ a. is_some a.index) (rules os false))) built_option [] (λ o. refl) refl os)

abbrev plain_rule : Rule → Bool
plain_rule a = a.is_simple

abbrev free_rule : Rule → Bool
free_rule a = a.is_free

simple_before : (os : List Text) (b : Bool) → list_all plain_rule (map option_rule os ++ (if b then address_rule ∷ [] else [])) ≡ true
simple_before os true = all_pass plain_rule option_rule (address_rule ∷ []) (λ o. refl) refl os
simple_before os false = all_pass plain_rule option_rule [] (λ o. refl) refl os

simple_after : (os : List Text) (b : Bool) → list_all plain_rule (rules os b) ≡ true
simple_after os true = all_pass plain_rule built_option (last_rules true) (λ o. refl) refl os
simple_after os false = all_pass plain_rule built_option [] (λ o. refl) refl os

free_after : (os : List Text) (b : Bool) → list_all free_rule (rules os b) ≡ true
free_after os true = all_pass free_rule built_option (last_rules true) (λ o. refl) refl os
free_after os false = all_pass free_rule built_option [] (λ o. refl) refl os

module _ (os : List Text) (b : Bool) where
  abbrev is_simple_by : App → Bool
  is_simple_by built_so = is_buildable (app_with os b) && (is_ready built_so.top && list_all is_ready_leaf built_so.subs)

  -- clap's clauses on simple commands hold of it
  pub simple : is_simple (app_with os b) ≡ true
  simple = ap is_simple_by (built_is os b) ∙ rw (simple_before os b, simple_after os b, in_order os b) refl

  pub simple_and_free : is_simple_and_free (app_with os b) ≡ true
  simple_and_free = ap (λ q. q && is_free_app (built (app_with os b))) simple ∙ ap is_free_app (built_is os b) ∙ rw (free_after os b) refl

-- ---- what is found in the rules

found : (p : Rule → Bool) (o : Text) (t : List Rule) → ((x : Text) → p (built_option x) ≡ bytes_eq x o) → (os : List Text)
    → list_any (λ x. bytes_eq x o) os ≡ true → find p (map built_option os ++ t) ≡ Some (built_option o)
found p o t is [] any = absurd (true≢false (sym any))
found p o t is (x ∷ xs) any = go (bytes_eq x o) refl (found p o t is xs)
  where
    go : (b : Bool) → bytes_eq x o ≡ b → (list_any (λ y. bytes_eq y o) xs ≡ true → find p (map built_option xs ++ t) ≡ Some (built_option o))
        → cond (p (built_option x)) (Some (built_option x)) (find p (map built_option xs ++ t)) ≡ Some (built_option o)
    go true e rest = ap (λ q. cond q (Some (built_option x)) (find p (map built_option xs ++ t))) (is x ∙ e) ∙ ap (λ y. Some (built_option y)) (same x o e)
    go false e rest = ap (λ q. cond q (Some (built_option x)) (find p (map built_option xs ++ t))) (is x ∙ e)
        ∙ rest (second (bytes_eq x o) (list_any (λ y. bytes_eq y o) xs) e any)

passed : (p : Rule → Bool) (t : List Rule) (os : List Text) → list_any (λ o. p (built_option o)) os ≡ false
    → find p (map built_option os ++ t) ≡ find p t
passed p t [] none = refl
passed p t (o ∷ os) none =
    let parts = neither (p (built_option o)) (list_any (λ x. p (built_option x)) os) none in
    ap (λ q. cond q (Some (built_option o)) (find p (map built_option os ++ t))) parts.0 ∙ passed p t os parts.1

none_of : (os : List Text) → list_any (λ o. false) os ≡ false
none_of [] = refl
none_of (o ∷ os) = none_of os

-- an option is found by its name and by its id
pub found_long : (os : List Text) (b : Bool) (o : Text) → list_any (λ x. bytes_eq x o) os ≡ true → arg_by_long (rules os b) o ≡ Some (built_option o)
found_long os b o = found (λ a. not (is_some a.index) && has_long a o) o (last_rules b) (λ x. or_false (bytes_eq x o)) os

pub found_id : (os : List Text) (b : Bool) (o : Text) → list_any (λ x. bytes_eq x o) os ≡ true → arg_by_id (rules os b) o ≡ Some (built_option o)
found_id os b o = found (λ a. bytes_eq a.id o) o (last_rules b) (λ x. refl) os

-- the addresses are found by their place and by their id
pub found_place : (os : List Text) → arg_by_index (rules os true) 1 ≡ Some built_address
found_place os = passed (λ a. option_map_or (λ k. k == 1) a.index false) (last_rules true) os (none_of os)

pub found_address : (os : List Text) → list_any (λ x. bytes_eq x (codes "address")) os ≡ false → arg_by_id (rules os true) (codes "address") ≡ Some built_address
found_address os none = passed (λ a. bytes_eq a.id (codes "address")) (last_rules true) os none
