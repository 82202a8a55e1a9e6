-- What words and values ask for.
use Rattle.std.proofs.Common.{◌≡◌, ◌≢◌, ℕ, List, [], ◌∷◌, length, map, None, Some, Option, Result, Bool, true, false, ◌≤◌, ◌∙◌, arith, codes, refl, ap, sym, subst}
use Rattle.std.specs.Prelude.{option_and_then, bytes_eq, slice_index_or, String, string_bytes}
use Rattle.std.specs.declared.alloc.Global.{Global}
use Rattle.std.specs.Borrow.{Bor}
use Rattle.std.proofs.lemmas.Slice.Eq.{bytes_eq-Decides}
use Rattle.dissent_words.specs.Request.{Text, Request, Reads, for_member, request_of, texts}
use Rattle.dissent_words.specs.Numbers.{number_within}
use Rattle.dissent_words.specs.declared.command.Command.{Command}
use Rattle.dissent_words.specs.declared.refusal.WordsRefusal.{WordsRefusal}
use Rattle.dissent_words.specs.Forms.{Form, Given, given_by, member_request, request_by, requested, of_one, of_two, of_three, of_four, of_six}

abbrev pub seen : List (Bor Text) → List Text
seen = map (λ value. value.now)

pub other_one : (request : Text → Option Request) (values : List (Bor Text)) → length values ≢ 1 → of_one request (seen values) ≡ None
other_one request [] other = refl
other_one request (a ∷ []) other = absurd (other refl)
other_one request (a ∷ b ∷ rest) other = refl

pub other_two : (request : Text → Text → Option Request) (values : List (Bor Text)) → length values ≢ 2 → of_two request (seen values) ≡ None
other_two request [] other = refl
other_two request (a ∷ []) other = refl
other_two request (a ∷ b ∷ []) other = absurd (other refl)
other_two request (a ∷ b ∷ c ∷ rest) other = refl

pub other_three : (request : Text → Text → Text → Option Request) (values : List (Bor Text)) → length values ≢ 3
    → of_three request (seen values) ≡ None
other_three request [] other = refl
other_three request (a ∷ []) other = refl
other_three request (a ∷ b ∷ []) other = refl
other_three request (a ∷ b ∷ c ∷ []) other = absurd (other refl)
other_three request (a ∷ b ∷ c ∷ d ∷ rest) other = refl

pub other_four : (request : Text → Text → Text → Text → Option Request) (values : List (Bor Text)) → length values ≢ 4
    → of_four request (seen values) ≡ None
other_four request [] other = refl
other_four request (a ∷ []) other = refl
other_four request (a ∷ b ∷ []) other = refl
other_four request (a ∷ b ∷ c ∷ []) other = refl
other_four request (a ∷ b ∷ c ∷ d ∷ []) other = absurd (other refl)
other_four request (a ∷ b ∷ c ∷ d ∷ e ∷ rest) other = refl

pub other_six : (request : Text → Text → Text → Text → Text → Text → Option Request) (values : List (Bor Text)) → length values ≢ 6
    → of_six request (seen values) ≡ None
other_six request [] other = refl
other_six request (a ∷ []) other = refl
other_six request (a ∷ b ∷ []) other = refl
other_six request (a ∷ b ∷ c ∷ []) other = refl
other_six request (a ∷ b ∷ c ∷ d ∷ []) other = refl
other_six request (a ∷ b ∷ c ∷ d ∷ e ∷ []) other = refl
other_six request (a ∷ b ∷ c ∷ d ∷ e ∷ f ∷ []) other = absurd (other refl)
other_six request (a ∷ b ∷ c ∷ d ∷ e ∷ f ∷ g ∷ rest) other = refl

-- ---- the words behind a name

pub nothing_asked : (form : Form) (words : List Text) → given_by form.options form.takes_addresses words ≡ None → request_by form words ≡ None
nothing_asked form words none = ap (option_and_then form.request) none

pub asked : (form : Form) (words : List Text) (given : Given) (result : Result Command WordsRefusal) → given_by form.options form.takes_addresses words ≡ Some given
    → Reads request_of result (form.request given) → Reads request_of result (request_by form words)
asked form words given result is reads = subst (λ (r : Option Request). Reads request_of result r) (sym (ap (option_and_then form.request) is)) reads

unlike : (x y : Text) → x ≢ y → bytes_eq x y ≡ false
unlike x y other = go (bytes_eq x y) refl
  where
    go : (b : Bool) → bytes_eq x y ≡ b → b ≡ false
    go false e = refl
    go true e = absurd (other ((bytes_eq-Decides x y).0 e))

-- a word that names no command
named_none : (word : Text) (words : List Text) → bytes_eq word (codes "keygen") ≡ false → bytes_eq word (codes "roster") ≡ false
    → bytes_eq word (codes "show") ≡ false → bytes_eq word (codes "judge") ≡ false → bytes_eq word (codes "group") ≡ false
    → bytes_eq word (codes "make") ≡ false → bytes_eq word (codes "member") ≡ false → bytes_eq word (codes "live") ≡ false
    → requested (word ∷ words) ≡ None
named_none word words e0 e1 e2 e3 e4 e5 e6 e7 = rw (e0, e1, e2, e3, e4, e5, e6, e7) refl

pub no_command : (words slice : List (String Global)) (name d : String Global) (word : Text) → slice ≡ words → 1 ≤ length slice
    → name ≡ slice_index_or slice 0 d → word ≡ string_bytes name
    → word ≢ codes "keygen" → word ≢ codes "roster"
    → word ≢ codes "show" → word ≢ codes "judge" → word ≢ codes "group"
    → word ≢ codes "make" → word ≢ codes "member" → word ≢ codes "live"
    → requested (texts words) ≡ None
no_command words [] name d word same more first is e0 e1 e2 e3 e4 e5 e6 e7 = absurd (omega arith)
no_command words (x ∷ xs) name d word same more first is e0 e1 e2 e3 e4 e5 e6 e7 =
    sym (ap (λ l. requested (texts l)) same) ∙ sym (ap (λ t. requested (t ∷ texts xs)) (is ∙ ap (λ n. string_bytes n) first))
    ∙ named_none word (texts xs) (unlike word _ e0) (unlike word _ e1) (unlike word _ e2) (unlike word _ e3) (unlike word _ e4) (unlike word _ e5)
    (unlike word _ e6) (unlike word _ e7)

-- ---- six values

abbrev origin : Bor Text
origin = record { ref_ptr = (0, 0); now = [] }

abbrev pub value_at : List (Bor Text) → ℕ → Text
value_at values k = (slice_index_or values k origin).now

pub member_read : (values slice : List (Bor Text)) (given_addresses : List Text) (roster key message transcript : Text) (round wait : ℕ) (addresses : List Text)
    → slice ≡ values → length slice ≡ 6 → roster ≡ value_at slice 0 → key ≡ value_at slice 1
    → Some round ≡ number_within 1 18446744073709551615 (value_at slice 2) → message ≡ value_at slice 3 → transcript ≡ value_at slice 4
    → Some wait ≡ number_within 1 3600 (value_at slice 5) → addresses ≡ given_addresses
    → member_request (record { values = seen values; addresses = given_addresses }) ≡ Some (for_member roster key round message transcript wait addresses)
member_read values (a ∷ b ∷ c ∷ d ∷ e ∷ f ∷ []) given roster key message transcript round wait addresses same long is_roster is_key is_round is_message is_transcript is_wait is_addresses =
    sym (ap (λ vs. member_request (record { values = seen vs; addresses = given })) same)
    ∙ rw (is_roster, is_key, is_message, is_transcript, is_addresses, ← is_round, ← is_wait) refl
member_read values [] given roster key message transcript round wait addresses same long e0 e1 e2 e3 e4 e5 e6 = absurd (omega (arith, long))
member_read values (a ∷ []) given roster key message transcript round wait addresses same long e0 e1 e2 e3 e4 e5 e6 = absurd (omega (arith, long))
member_read values (a ∷ b ∷ []) given roster key message transcript round wait addresses same long e0 e1 e2 e3 e4 e5 e6 = absurd (omega (arith, long))
member_read values (a ∷ b ∷ c ∷ []) given roster key message transcript round wait addresses same long e0 e1 e2 e3 e4 e5 e6 = absurd (omega (arith, long))
member_read values (a ∷ b ∷ c ∷ d ∷ []) given roster key message transcript round wait addresses same long e0 e1 e2 e3 e4 e5 e6 = absurd (omega (arith, long))
member_read values (a ∷ b ∷ c ∷ d ∷ e ∷ []) given roster key message transcript round wait addresses same long e0 e1 e2 e3 e4 e5 e6 = absurd (omega (arith, long))
member_read values (a ∷ b ∷ c ∷ d ∷ e ∷ f ∷ g ∷ rest) given roster key message transcript round wait addresses same long e0 e1 e2 e3 e4 e5 e6 =
    absurd (omega (arith, long))
