-- What transcripts list of the members of honest runs: one or two posts show nothing against them.
use Rattle.std.proofs.Common.{◌≡◌, ℕ, List, [], ◌∷◌, Ok, ap, sym, ◌∙◌, refl, subst, arith}
use Rattle.std.specs.Prelude.{Contains}
use Rattle.std.proofs.lemmas.List.Elements.{All-contains}
use Rattle.phase_message.specs.declared.header.Header.{Header}
use Rattle.phase_message.specs.declared.post.Post.{Post}
use Rattle.phase_message.specs.Grammar.{OfGrammar}
use Rattle.group_roster.specs.Roster.{Roster, shape_of_roster}
use Rattle.signed_post.specs.Admission.{Says}
use Rattle.signed_post.specs.Frame.{frame_of}
use Rattle.signed_post.proofs.Frames.{framed-again}
use Rattle.round_spec.specs.Rows.{IsRunOf}
use Rattle.round_spec.specs.Runs.{AreHonest, HonestRun, Run, SaidBy, Sent, sent}
use Rattle.round_spec.proofs.Rows.{one_per_slot, own_row, run_of_content, run_unique}
use Rattle.conviction.specs.Accepts.{Equivocates, SaysMalformed}
use Rattle.conviction.specs.Framing.{AllSent, NotShown, TheRun}

-- the post of a content with the signature that a listed post has
post_said : (roster : Roster) (round : ℕ) (bytes content : List ℕ) (header : Header) → Says roster round bytes content header → Post
post_said roster round bytes content header says = record { content = content; signature = says.signature }

-- bytes that say something are read as the post of it
pub says-frame : (roster : Roster) (round : ℕ) (bytes content : List ℕ) (header : Header) (says : Says roster round bytes content header)
    → frame_of bytes ≡ Ok (record { content = content; signature = says.signature })
says-frame roster round bytes content header says =
    ap frame_of says.spelled ∙ framed-again (record { content = content; signature = says.signature }) says.admitted.frame

-- what is said was sent
pub said-sent : (roster : Roster) (runs : List Run) (number round : ℕ) (posts : List (List ℕ)) (bytes content : List ℕ) (header : Header)
    → SaidBy roster runs number round posts
    → Contains posts bytes → Says roster round bytes content header → header.sender ≡ number → Sent runs number content
said-sent roster runs number round posts bytes content header said listed says sender =
    said bytes (record { content = content; signature = says.signature }) header listed (says-frame roster round bytes content header says)
    says.admitted sender

-- ---- the run

run-in : (runs : List Run) (number round other : ℕ) (run : Run) → other ≡ round → IsRunOf runs number other run
    → IsRunOf runs number round run
run-in runs number round other run e is = subst (λ (r : ℕ). IsRunOf runs number r run) e is

pub the_run : TheRun
the_run roster runs number round posts bytes content header honest said listed says sender = (first.0, is_first, all)
  where
    first : (run : Run) × IsRunOf runs number header.round run × Contains (sent run) content
    first =
        run_of_content roster runs number content header honest
        (said-sent roster runs number round posts bytes content header said listed says sender) says.admitted.reads

    is_first : IsRunOf runs number round first.0
    is_first = run-in runs number round header.round first.0 says.admitted.this_round first.1

    all : AllSent roster round posts number first.0
    all other text head there tells by =
        let found =
        run_of_content roster runs number text head honest (said-sent roster runs number round posts other text head said there tells by)
        tells.admitted.reads in
        let same : found.0 ≡ first.0 =
        run_unique roster runs number round found.0 first.0 honest
        (run-in runs number round head.round found.0 tells.admitted.this_round found.1) is_first in
        subst (λ (run : Run). Contains (sent run) text) same found.2

-- ---- two posts, and one

pub listed-in : (posts : List (List ℕ)) (all : List (List ℕ)) (bytes : List ℕ) → posts ≡ all → Contains all bytes → Contains posts bytes
listed-in posts all bytes e is = subst (λ (x : List (List ℕ)). Contains x bytes) (sym e) is

pub frame_equivocation : NotShown Equivocates
frame_equivocation roster runs t honest said e =
    let one =
    said-sent roster runs t.accused t.round t.posts e.first e.first_content e.first_header said
    (listed-in t.posts (e.first ∷ e.second ∷ []) e.first e.listed (0, omega arith, refl)) e.first_says e.first_sender in
    let two =
    said-sent roster runs t.accused t.round t.posts e.second e.second_content e.second_header said
    (listed-in t.posts (e.first ∷ e.second ∷ []) e.second e.listed (1, omega arith, refl)) e.second_says e.second_sender in
    e.differ (one_per_slot roster runs t.accused e.first_content e.second_content e.first_header e.second_header honest one two
    e.first_says.admitted.reads e.second_says.admitted.reads (e.first_says.admitted.this_round ∙ sym e.second_says.admitted.this_round)
    (sym e.one_stage))

-- the shape of an honest run is that of the roster
pub run-roster : (roster : Roster) (runs : List Run) (run : Run) → AreHonest roster runs → Contains runs run → run.config.roster ≡ roster
run-roster roster runs run honest listed = All-contains (λ run. run.config.roster ≡ roster) runs run honest.one_roster listed

pub run-honest : (roster : Roster) (runs : List Run) (run : Run) → AreHonest roster runs → Contains runs run → HonestRun run
run-honest roster runs run honest listed = All-contains HonestRun runs run honest.honest listed

pub frame_malformed : NotShown SaysMalformed
frame_malformed roster runs t honest said e =
    let listed = listed-in t.posts (e.post ∷ []) e.post e.listed (0, omega arith, refl) in
    let run = the_run roster runs t.accused t.round t.posts e.post e.content e.header honest said listed e.says e.sender in
    let row = own_row run.0 e.content (run-honest roster runs run.0 honest run.1.listed)
    (run.2 e.post e.content e.header listed e.says e.sender) in
    let roster_is = run-roster roster runs run.0 honest run.1.listed in
    e.outside row.read (subst (λ (r : Roster). OfGrammar (shape_of_roster r) row.read) roster_is row.grammar) row.spelled
