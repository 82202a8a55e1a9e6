-- How clap walks over plain words, and what it has then.
use Rattle.std.proofs.Common.{◌≡◌, ◌∙◌, ◌&&◌, ◌||◌, Bool, cond, suc, true, false, not, refl, sym, ap, List, [], ◌∷◌, ◌++◌, map, length, take, drop, Option, Some, None, codes, true≢false, if◌then◌else◌, arith, append-nil, append_assoc}
use Rattle.std.specs.Prelude.{◌==◌, ◌+◌, bytes_eq, fold}
use Rattle.std.specs.List.{list_any, prefix_len, AllByRecursion}
use Rattle.std.specs.Option.{option_map_or}
use Rattle.std.proofs.Math.Seq.{take-append_seam, take-length}
use Rattle.clap.specs.Lexer.{has_byte, long_of, name_and_value, short_of}
use Rattle.clap.specs.Walk.{Held, Row, Rule, Waiting, Walk, after_step, arg_by_id, arg_by_long, at_row, has_row, idle, more_values, is_pending, next, option, plain_word, positional, reacted, settled, settled_rows, subcommand_met, used, used_by_id, value, walked, with_values, without, word_met}
use Rattle.clap.specs.Faults.{settle_fault, step_fault, turn_fault, use_fault, walk_fault}
use Rattle.clap.specs.Kinds.{Kinds, or_else}
use Rattle.clap.specs.declared.builder.value_parser.Reading.TheVariants.{AsWritten}
use Rattle.clap.specs.declared.parser.matches.ValueSource.TheVariants.{CommandLine}
use Rattle.dissent_words.specs.Request.{Text}
use Rattle.dissent_words.specs.Plain.{Use, is_value, spelled, words_of}
use Rattle.dissent_words.proofs.Rules.{and_false, built_address, built_option, found_address, found_id, found_long, found_place, neither, or_true, rules, self, shape}

-- ---- what a word looks like

-- a name that can stand in a long option: not empty, and without `=`
abbrev pub is_name : Text → Bool
is_name [] = false
is_name (x ∷ xs) = not (has_byte 61 (x ∷ xs))

is_false : (b : Bool) → not b ≡ true → b ≡ false
is_false true e = absurd (true≢false (sym e))
is_false false e = refl

no_equals : (o v : Text) → has_byte 61 o ≡ false → prefix_len (λ x. not (x == 61)) (o ++ 61 ∷ v) ≡ length o
no_equals [] v none = refl
no_equals (x ∷ xs) v none =
    let parts = neither (x == 61) (has_byte 61 xs) none in
    ap (λ b. cond (not b) (1 + prefix_len (λ y. not (y == 61)) (xs ++ 61 ∷ v)) 0) parts.0 ∙ omega (arith, no_equals xs v parts.1)

no_equals_alone : (o : Text) → has_byte 61 o ≡ false → prefix_len (λ x. not (x == 61)) o ≡ length o
no_equals_alone [] none = refl
no_equals_alone (x ∷ xs) none =
    let parts = neither (x == 61) (has_byte 61 xs) none in
    ap (λ b. cond (not b) (1 + prefix_len (λ y. not (y == 61)) xs) 0) parts.0 ∙ omega (arith, no_equals_alone xs parts.1)

has_equals : (o v : Text) → has_byte 61 (o ++ 61 ∷ v) ≡ true
has_equals [] v = refl
has_equals (x ∷ xs) v = ap (λ q. (x == 61) || q) (has_equals xs v) ∙ or_true (x == 61)

past_equals : (o v : Text) → drop (length o + 1) (o ++ 61 ∷ v) ≡ v
past_equals [] v = refl
past_equals (x ∷ xs) v =
    let further : length (x ∷ xs) + 1 ≡ suc (length xs + 1) = omega arith in
    ap (λ n. drop n (x ∷ (xs ++ 61 ∷ v))) further ∙ past_equals xs v

-- a name alone, and with a value
name_alone : (o : Text) → has_byte 61 o ≡ false → name_and_value o ≡ (o, None)
name_alone o none =
    let front : take (prefix_len (λ x. not (x == 61)) o) o ≡ o = ap (λ n. take n o) (no_equals_alone o none) ∙ take-length o in
    rw (none) (ap (λ (t : Text). (t, None)) front)

name_joined : (o v : Text) → has_byte 61 o ≡ false → name_and_value (o ++ 61 ∷ v) ≡ (o, Some v)
name_joined o v none =
    let at : prefix_len (λ x. not (x == 61)) (o ++ 61 ∷ v) ≡ length o = no_equals o v none in
    let front : take (prefix_len (λ x. not (x == 61)) (o ++ 61 ∷ v)) (o ++ 61 ∷ v) ≡ o =
    ap (λ n. take n (o ++ 61 ∷ v)) at ∙ take-append_seam o (61 ∷ v) in
    let back : drop (prefix_len (λ x. not (x == 61)) (o ++ 61 ∷ v) + 1) (o ++ 61 ∷ v) ≡ v =
    ap (λ n. drop (n + 1) (o ++ 61 ∷ v)) at ∙ past_equals o v in
    ap (λ b. (
      take (prefix_len (λ x. not (x == 61)) (o ++ 61 ∷ v)) (o ++ 61 ∷ v),
      if b then Some (drop (prefix_len (λ x. not (x == 61)) (o ++ 61 ∷ v) + 1) (o ++ 61 ∷ v)) else None,
    )) (has_equals o v)
    ∙ (λ i. (front i, Some (back i)))

abbrev Split : Type 0
Split = Option (Text × Option Text)

long_alone : (o : Text) → is_name o ≡ true → long_of (codes "--" ++ o) ≡ Some (o, None)
long_alone [] name = absurd (true≢false (sym name))
long_alone (x ∷ xs) name =
    let told : Text × Option Text → Split = Some in ap told (name_alone (x ∷ xs) (is_false _ name))

long_joined : (o v : Text) → is_name o ≡ true → long_of (codes "--" ++ (o ++ (codes "=" ++ v))) ≡ Some (o, Some v)
long_joined [] v name = absurd (true≢false (sym name))
long_joined (x ∷ xs) v name =
    let told : Text × Option Text → Split = Some in ap told (name_joined (x ∷ xs) v (is_false _ name))

no_end : (o rest : Text) → is_name o ≡ true → bytes_eq (codes "--" ++ (o ++ rest)) (45 ∷ 45 ∷ []) ≡ false
no_end [] rest name = absurd (true≢false (sym name))
no_end (x ∷ xs) rest name = refl

no_end_alone : (o : Text) → is_name o ≡ true → bytes_eq (codes "--" ++ o) (45 ∷ 45 ∷ []) ≡ false
no_end_alone [] name = absurd (true≢false (sym name))
no_end_alone (x ∷ xs) name = refl

-- a value is no flag
record IsNoFlag (v : Text) : Type 0 where
  end : bytes_eq v (45 ∷ 45 ∷ []) ≡ false
  long : long_of v ≡ None
  short : short_of v ≡ None

no_flag : (v : Text) → is_value v ≡ true → IsNoFlag v
no_flag [] e = absurd (true≢false (sym e))
no_flag (x ∷ xs) e =
    let other : (x == 45) ≡ false = is_false _ e in
    record { end = rw other refl; long = rw other refl; short = rw other refl }

no_subcommand : (waiting : Waiting) (word : Text) → subcommand_met [] waiting word ≡ None
no_subcommand idle word = refl
no_subcommand (option id) word = refl
no_subcommand positional word = refl

-- ---- rows

-- the row of an option, and that of addresses
abbrev pub row_of : Use → Row
row_of u = record { id = u.option; values = u.value ∷ []; count = None; source = Some CommandLine; reading = AsWritten }

abbrev pub address_row : List Text → Row
address_row ws = record { id = codes "address"; values = ws; count = None; source = Some CommandLine; reading = AsWritten }

not_there : (id : Text) (change : Row → List Row) (missing rows : List Row) → has_row id rows ≡ false → at_row id change missing rows ≡ rows ++ missing
not_there id change missing [] none = refl
not_there id change missing (r ∷ rs) none =
    let parts = neither (bytes_eq r.id id) (has_row id rs) none in
    ap (λ b. cond b (change r ++ rs) (r ∷ at_row id change missing rs)) parts.0
    ∙ ap (λ rest. r ∷ rest) (not_there id change missing rs parts.1)

at_last : (id : Text) (change : Row → List Row) (missing rows : List Row) (r : Row) → has_row id rows ≡ false → bytes_eq r.id id ≡ true
    → at_row id change missing (rows ++ r ∷ []) ≡ rows ++ (change r ++ [])
at_last id change missing [] r none hit = ap (λ b. cond b (change r ++ []) (r ∷ missing)) hit
at_last id change missing (x ∷ rs) r none hit =
    let parts = neither (bytes_eq x.id id) (has_row id rs) none in
    ap (λ b. cond b (change x ++ (rs ++ r ∷ [])) (x ∷ at_row id change missing (rs ++ r ∷ []))) parts.0
    ∙ ap (λ rest. x ∷ rest) (at_last id change missing rs r parts.1 hit)

-- an option that was not used before gets its row at the end
used_option : (o v : Text) (rows : List Row) → has_row o rows ≡ false
    → used (built_option o) (v ∷ []) rows ≡ rows ++ row_of (record { option = o; value = v; is_joined = false }) ∷ []
used_option o v rows none =
    let gone : without o rows ≡ rows = not_there o (λ _. []) [] rows none ∙ append-nil rows in
    ap (with_values o AsWritten CommandLine (v ∷ [])) gone ∙ not_there o (more_values CommandLine (v ∷ [])) (row_of (record { option = o; value = v; is_joined = false }) ∷ []) rows none

option_fits : (o v : Text) (rows : List Row) → has_row o rows ≡ false → use_fault false (built_option o) (v ∷ []) rows ≡ []
option_fits o v rows none = rw none refl

first_address : (w : Text) (rows : List Row) → has_row (codes "address") rows ≡ false
    → used built_address (w ∷ []) rows ≡ rows ++ address_row (w ∷ []) ∷ []
first_address w rows none = not_there (codes "address") (more_values CommandLine (w ∷ [])) (address_row (w ∷ []) ∷ []) rows none

next_address : (w : Text) (ws : List Text) (rows : List Row) → has_row (codes "address") rows ≡ false
    → used built_address (w ∷ []) (rows ++ address_row ws ∷ []) ≡ rows ++ address_row (ws ++ w ∷ []) ∷ []
next_address w ws rows none =
    at_last (codes "address") (more_values CommandLine (w ∷ [])) (address_row (w ∷ []) ∷ []) rows (address_row ws) none refl

-- ---- the walk

abbrev pub standing : Waiting → Held → Walk
standing waiting h = record { held = h; waiting = waiting; position = 1; is_trailing = false; stopped = None }

module _ (os : List Text) (b : Bool) where
  abbrev c : List Rule
  c = rules os b

  -- the rows and the faults when what is pending is used
  abbrev pub rows_at : Held → List Row
  rows_at h = settled_rows c h.pending h.rows

  abbrev pub fault_at : Held → Kinds
  fault_at h = settle_fault c false h

  -- the walk from here over these words goes there, and none of them is a fault
  pub record Goes (from : Walk) (words : List Text) (to : Walk) : Type 0 where
    pub walk : (more : List Text) → fold (walked c []) from (words ++ more) ≡ fold (walked c []) to more
    pub faults : (more : List Text) → walk_fault (shape os b) [] from (words ++ more) ≡ walk_fault (shape os b) [] to more

  goes_one : (from to : Walk) (word : Text) → walked c [] from word ≡ to → turn_fault (shape os b) [] from word ≡ [] → Goes from (word ∷ []) to
  unfolding walk_fault
  goes_one from to word is passes = record {
    walk = λ more. ap (λ w. fold (walked c []) w more) is;
    faults = λ more. ap (λ k. or_else k (walk_fault (shape os b) [] (walked c [] from word) more)) passes
        ∙ ap (λ w. walk_fault (shape os b) [] w more) is;
  }

  goes_two : (from mid to : Walk) (first next_word : Text) → Goes from (first ∷ []) mid → Goes mid (next_word ∷ []) to → Goes from (first ∷ next_word ∷ []) to
  goes_two from mid to first next_word a d = record {
    walk = λ more. a.walk (next_word ∷ more) ∙ d.walk more;
    faults = λ more. a.faults (next_word ∷ more) ∙ d.faults more;
  }

  -- an option waits for its value, and then has it
  abbrev opened : Held → Text → Held
  opened h o = record (settled c h) { pending = Some (o, []) }

  abbrev filled_in : Held → Text → Text → Held
  filled_in h o v = record (settled c h) { pending = Some (o, v ∷ []) }

  module _ (h : Held) (o v : Text) (known : list_any (λ x. bytes_eq x o) os ≡ true) (name : is_name o ≡ true) where
    long : arg_by_long c o ≡ Some (built_option o)
    long = found_long os b o known

    name_goes : fault_at h ≡ [] → Goes (standing idle h) ((codes "--" ++ o) ∷ []) (standing (option o) (opened h o))
    unfolding walked
    name_goes clean =
        let word : Text = codes "--" ++ o in
        let met : word_met c [] false idle 1 word h ≡ (opened h o, next (option o)) =
        rw (no_end_alone o name, long_alone o name, long) refl in
        let faultless : turn_fault (shape os b) [] (standing idle h) word ≡ [] =
        rw (no_end_alone o name, long_alone o name, long, clean) refl in
        goes_one (standing idle h) (standing (option o) (opened h o)) word
        (ap (λ m. after_step c word (standing idle h) m.0 m.1) met) faultless

    value_goes : is_value v ≡ true → Goes (standing (option o) (opened h o)) (v ∷ []) (standing idle (filled_in h o v))
    unfolding walked
    value_goes good =
        let flag = no_flag v good in
        let met : word_met c [] false (option o) 1 v (opened h o) ≡ (filled_in h o v, next idle) =
        rw (flag.end, flag.long, flag.short, found_id os b o known, self o) refl in
        let faultless : turn_fault (shape os b) [] (standing (option o) (opened h o)) v ≡ [] =
        rw (flag.end, flag.long, flag.short) refl in
        goes_one (standing (option o) (opened h o)) (standing idle (filled_in h o v)) v
        (ap (λ m. after_step c v (standing (option o) (opened h o)) m.0 m.1) met) faultless

    joined_goes : fault_at h ≡ [] → has_row o (rows_at h) ≡ false
        → Goes (standing idle h) ((codes "--" ++ (o ++ (codes "=" ++ v))) ∷ []) (standing idle (reacted c (built_option o) (v ∷ []) h))
    unfolding walked
    joined_goes clean none =
        let word : Text = codes "--" ++ (o ++ (codes "=" ++ v)) in
        let met : word_met c [] false idle 1 word h ≡ (reacted c (built_option o) (v ∷ []) h, next idle) =
        rw (no_end o (codes "=" ++ v) name, long_joined o v name, long) refl in
        let faultless : turn_fault (shape os b) [] (standing idle h) word ≡ [] =
        rw (no_end o (codes "=" ++ v) name, long_joined o v name, long, clean, option_fits o v (rows_at h) none) refl in
        goes_one (standing idle h) (standing idle (reacted c (built_option o) (v ∷ []) h)) word
        (ap (λ m. after_step c word (standing idle h) m.0 m.1) met) faultless

  -- what the walk has behind the words of options
  pub record Behind (h : Held) (words : List Text → List Text) (rows : List Row) : Type 0 where
    pub held : Held
    pub walk : (more : List Text) → fold (walked c []) (standing idle h) (words more) ≡ fold (walked c []) (standing idle held) more
    pub faults : (more : List Text) → walk_fault (shape os b) [] (standing idle h) (words more) ≡ walk_fault (shape os b) [] (standing idle held) more
    pub has : rows_at held ≡ rows
    pub clean : fault_at held ≡ []

  -- an option that the command has, with a value
  abbrev pub IsGood : Use → Type 0
  IsGood u = (list_any (λ x. bytes_eq x u.option) os ≡ true) × (is_name u.option ≡ true) × (is_value u.value ≡ true)

  use_goes : (h : Held) (rows : List Row) (o v : Text) (joined : Bool) → IsGood (record { option = o; value = v; is_joined = joined }) → rows_at h ≡ rows → fault_at h ≡ [] → has_row o rows ≡ false
      → Behind h (λ more. words_of (record { option = o; value = v; is_joined = joined }) ++ more) (rows ++ row_of (record { option = o; value = v; is_joined = joined }) ∷ [])
  use_goes h rows o v true good at clean none =
      let free : has_row o (rows_at h) ≡ false = ap (has_row o) at ∙ none in
      let goes = joined_goes h o v good.0 good.1 clean free in
      record {
        held = reacted c (built_option o) (v ∷ []) h;
        walk = goes.walk;
        faults = goes.faults;
        has = ap (used (built_option o) (v ∷ [])) at ∙ used_option o v rows none;
        clean = refl;
      }
  use_goes h rows o v false good at clean none =
      let goes = goes_two (standing idle h) (standing (option o) (opened h o)) (standing idle (filled_in h o v)) (codes "--" ++ o) v
      (name_goes h o v good.0 good.1 clean) (value_goes h o v good.0 good.1 good.2) in
      let found : arg_by_id c o ≡ Some (built_option o) = found_id os b o good.0 in
      record {
        held = filled_in h o v;
        walk = goes.walk;
        faults = goes.faults;
        has = ap (λ a. used_by_id a (v ∷ []) (rows_at h)) found ∙ ap (used (built_option o) (v ∷ [])) at ∙ used_option o v rows none;
        clean = ap (λ a. option_map_or (λ r. use_fault false r (v ∷ []) (rows_at h)) a []) found
            ∙ ap (use_fault false (built_option o) (v ∷ [])) at ∙ option_fits o v rows none;
      }

  -- options that were not yet used stay so when another is
  abbrev pub AreNew : List Use → List Row → Type 0
  AreNew us rows = AllByRecursion (λ u. has_row u.option rows ≡ false) us

  has_row_push : (id : Text) (rows : List Row) (r : Row) → has_row id rows ≡ false → bytes_eq r.id id ≡ false → has_row id (rows ++ r ∷ []) ≡ false
  has_row_push id [] r none other = rw other refl
  has_row_push id (x ∷ rows) r none other =
      let parts = neither (bytes_eq x.id id) (has_row id rows) none in
      ap (λ q. q || has_row id (rows ++ r ∷ [])) parts.0 ∙ has_row_push id rows r parts.1 other

  still_new : (u : Use) (us : List Use) (rows : List Row) → AreNew us rows → AllByRecursion (λ x. bytes_eq u.option x ≡ false) (map (λ x. x.option) us)
      → AreNew us (rows ++ row_of u ∷ [])
  still_new u [] rows new other = tt
  still_new u (x ∷ us) rows new other = (has_row_push x.option rows (row_of u) new.0 other.0, still_new u us rows new.1 other.1)

  -- options that differ
  abbrev pub AreApart : List Use → Type 0
  AreApart [] = Unit {0}
  AreApart (u ∷ us) = AllByRecursion (λ x. bytes_eq u.option x ≡ false) (map (λ x. x.option) us) × AreApart us

  pub uses_go : (us : List Use) (h : Held) (rows : List Row) → AllByRecursion IsGood us → AreApart us → AreNew us rows → rows_at h ≡ rows → fault_at h ≡ []
      → Behind h (spelled us) (rows ++ map row_of us)
  uses_go [] h rows good apart new at clean =
      record { held = h; walk = λ more. refl; faults = λ more. refl; has = at ∙ sym (append-nil rows); clean = clean }
  uses_go (u ∷ us) h rows good apart new at clean =
      let first = use_goes h rows u.option u.value u.is_joined good.0 at clean new.0 in
      let rest = uses_go us first.held (rows ++ row_of u ∷ []) good.1 apart.1 (still_new u us rows new.1 apart.0) first.has first.clean in
      record {
        held = rest.held;
        walk = λ more. first.walk (spelled us more) ∙ rest.walk more;
        faults = λ more. first.faults (spelled us more) ∙ rest.faults more;
        has = rest.has ∙ append_assoc rows (row_of u ∷ []) (map row_of us);
        clean = rest.clean;
      }

  -- what the walk comes to
  pub record Ends (from : Walk) (words : List Text) (rows : List Row) : Type 0 where
    pub waiting : Waiting
    pub held : Held
    pub walk : fold (walked c []) from words ≡ standing waiting held
    pub faults : walk_fault (shape os b) [] from words ≡ []
    pub has : rows_at held ≡ rows
    pub clean : fault_at held ≡ []

-- ---- addresses

module _ (os : List Text) (named : list_any (λ x. bytes_eq x (codes "address")) os ≡ false) where
  abbrev c_with : List Rule
  c_with = rules os true

  abbrev added : Held → Text → Held
  added h v = record (settled c_with h) { pending = Some (codes "address", v ∷ []) }

  address_goes : (waiting : Waiting) (h : Held) (v : Text) → plain_word c_with waiting v h ≡ (h, value) → is_value v ≡ true → fault_at os true h ≡ []
      → Goes os true (standing waiting h) (v ∷ []) (standing positional (added h v))
  unfolding walked
  address_goes waiting h v plain good clean =
      let flag = no_flag v good in
      let met : word_met c_with [] false waiting 1 v h ≡ (h, value) =
      rw (no_subcommand waiting v, flag.end, flag.long, flag.short) plain in
      let lone : (is_pending built_address h.pending && false) ≡ false = and_false (is_pending built_address h.pending) in
      let to : after_step c_with v (standing waiting h) h value ≡ standing positional (added h v) =
      rw (found_place os, lone) refl in
      let word_clean : turn_fault (shape os true) [] (standing waiting h) v ≡ step_fault (shape os true) 1 h value =
      rw (no_subcommand waiting v, flag.end, flag.long, flag.short, plain) refl in
      let step_clean : step_fault (shape os true) 1 h value ≡ [] = rw (found_place os, lone) clean in
      goes_one os true (standing waiting h) (standing positional (added h v)) v
      (ap (λ m. after_step c_with v (standing waiting h) m.0 m.1) met ∙ to) (word_clean ∙ step_clean)

  added_rows : (h : Held) (v : Text) → rows_at os true (added h v) ≡ used built_address (v ∷ []) (rows_at os true h)
  added_rows h v = ap (λ a. used_by_id a (v ∷ []) (rows_at os true h)) (found_address os named)

  added_clean : (h : Held) (v : Text) → fault_at os true (added h v) ≡ []
  added_clean h v = ap (λ a. option_map_or (λ r. use_fault false r (v ∷ []) (rows_at os true h)) a []) (found_address os named)

  -- more addresses behind some
  more_go : (ws done : List Text) (h : Held) (rows : List Row) → AllByRecursion (λ w. is_value w ≡ true) ws → has_row (codes "address") rows ≡ false
      → rows_at os true h ≡ rows ++ address_row done ∷ [] → fault_at os true h ≡ [] → Ends os true (standing positional h) ws (rows ++ address_row (done ++ ws) ∷ [])
  unfolding walk_fault
  more_go [] done h rows good none at clean = record {
    waiting = positional;
    held = h;
    walk = refl;
    faults = refl;
    has = at ∙ ap (λ ws. rows ++ address_row ws ∷ []) (sym (append-nil done));
    clean = clean;
  }
  more_go (w ∷ ws) done h rows good none at clean =
      let goes = address_goes positional h w refl good.0 clean in
      let now : rows_at os true (added h w) ≡ rows ++ address_row (done ++ w ∷ []) ∷ [] =
      added_rows h w ∙ ap (used built_address (w ∷ [])) at ∙ next_address w done rows none in
      let rest = more_go ws (done ++ w ∷ []) (added h w) rows good.1 none now (added_clean h w) in
      record {
        waiting = rest.waiting;
        held = rest.held;
        walk = goes.walk ws ∙ rest.walk;
        faults = goes.faults ws ∙ rest.faults;
        has = rest.has ∙ ap (λ xs. rows ++ address_row xs ∷ []) (append_assoc done (w ∷ []) ws);
        clean = rest.clean;
      }

  -- one address or more
  pub addresses_go : (w : Text) (ws : List Text) (h : Held) (rows : List Row) → AllByRecursion (λ x. is_value x ≡ true) (w ∷ ws) → has_row (codes "address") rows ≡ false
      → rows_at os true h ≡ rows → fault_at os true h ≡ [] → Ends os true (standing idle h) (w ∷ ws) (rows ++ address_row (w ∷ ws) ∷ [])
  addresses_go w ws h rows good none at clean =
      let goes = address_goes idle h w refl good.0 clean in
      let now : rows_at os true (added h w) ≡ rows ++ address_row (w ∷ []) ∷ [] =
      added_rows h w ∙ ap (used built_address (w ∷ [])) at ∙ first_address w rows none in
      let rest = more_go ws (w ∷ []) (added h w) rows good.1 none now (added_clean h w) in
      record {
        waiting = rest.waiting;
        held = rest.held;
        walk = goes.walk ws ∙ rest.walk;
        faults = goes.faults ws ∙ rest.faults;
        has = rest.has;
        clean = rest.clean;
      }
