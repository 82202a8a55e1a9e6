-- What stands in the posts of honest runs: what their members had to say, where it is of the grammar.
use Rattle.std.proofs.Common.{◌≡◌, ℕ, List, [], ◌∷◌, ◌++◌, length, get_or, Result, Ok, ap, sym, ◌∙◌, refl, subst}
use Rattle.wire_core.specs.declared.cursor.Short.{Short}
use Rattle.wire_core.proofs.ListLemmas.{split_once}
use Rattle.phase_message.specs.declared.content.Body.{Body}
use Rattle.phase_message.specs.declared.content.Content.{Content}
use Rattle.phase_message.specs.declared.header.Header.{Header}
use Rattle.phase_message.specs.declared.offence.Offence.{Offence}
use Rattle.phase_message.specs.Grammar.{IsBody, IsHeader, body_text, content_text, header_text, kind_number}
use Rattle.phase_message.specs.Header.{header_of}
use Rattle.phase_message.specs.Offence.{content_read}
use Rattle.phase_message.specs.Stages.{kind_of_stage}
use Rattle.phase_message.proofs.Whole.{content-header, content-is_read}
use Rattle.stage_log.specs.Log.{contents_of}
use Rattle.round_spec.specs.Say.{content_with, own_body_if, own_content, own_descriptor, own_header, shape_in}
use Rattle.round_spec.specs.Rows.{IsOwnRow}
use Rattle.round_spec.specs.Runs.{Run}

headers-same : (a b : Header) (r : Result Header Short) → r ≡ Ok a → r ≡ Ok b → a ≡ b
headers-same a b r e e' = let both = sym e ∙ e' in cc

pub contents-same : (a b : Content) (r : Result Content Offence) → r ≡ Ok a → r ≡ Ok b → a ≡ b
contents-same a b r e e' = let both = sym e ∙ e' in cc

-- ---- one text

-- two contents of one header and one text have bodies of one kind and one text
pub record OneBody (a b : Body) : Type 0 where
  pub kind : kind_number a ≡ kind_number b
  pub text : body_text a ≡ body_text b

pub one-body : (a b : Content) → a.header ≡ b.header → content_text a ≡ content_text b → OneBody a.body b.body
one-body a b header text =
    let ra : List ℕ = (kind_number a.body ∷ []) ++ body_text a.body in
    let rb : List ℕ = (kind_number b.body ∷ []) ++ body_text b.body in
    let rest = (split_once (header_text a.header) (header_text b.header) ra rb (ap (λ (h : Header). length (header_text h)) header) text).1
    in
    let parts = split_once (kind_number a.body ∷ []) (kind_number b.body ∷ []) (body_text a.body) (body_text b.body) refl rest in
    record { kind = ap (λ (xs : List ℕ). get_or xs 0 0) parts.0; text = parts.1 }

-- ---- the row of a run

-- what the member had to say, by the kind of the stage
abbrev pub body_due : (run : Run) (content : List ℕ) → IsOwnRow run content → Body
body_due run content row =
    own_body_if run.config (own_descriptor run.config (contents_of row.past)) row.past row.stage
    (kind_of_stage (shape_in run.config) row.stage)

abbrev pub content_due : (run : Run) (content : List ℕ) → IsOwnRow run content → Content
content_due run content row = record { header = own_header run.config row.past row.stage; body = body_due run content row }

pub due-text : (run : Run) (content : List ℕ) (row : IsOwnRow run content) → content ≡ content_text (content_due run content row)
unfolding own_content content_with
due-text run content row = row.said

pub row-reads : (run : Run) (content : List ℕ) (row : IsOwnRow run content) → content_read (shape_in run.config) content ≡ Ok row.read
row-reads run content row = ap (content_read (shape_in run.config)) row.spelled ∙ content-is_read (shape_in run.config) row.read row.grammar

pub row-header : (run : Run) (content : List ℕ) (row : IsOwnRow run content) → row.read.header ≡ own_header run.config row.past row.stage
row-header run content row =
    headers-same row.read.header (own_header run.config row.past row.stage) (header_of content)
    (content-header (shape_in run.config) content row.read (row-reads run content row)) row.header

pub row-text : (run : Run) (content : List ℕ) (row : IsOwnRow run content) → OneBody row.read.body (body_due run content row)
row-text run content row =
    one-body row.read (content_due run content row) (row-header run content row) (sym row.spelled ∙ due-text run content row)

-- where that is a body of the grammar, it is what is read
pub row-is : (run : Run) (content : List ℕ) (row : IsOwnRow run content) → IsBody (shape_in run.config) row.stage (body_due run content row)
    → row.read ≡ content_due run content row
row-is run content row is =
    let header : IsHeader (shape_in run.config) (own_header run.config row.past row.stage) =
    subst (IsHeader (shape_in run.config)) (row-header run content row) row.grammar.0 in
    contents-same row.read (content_due run content row) (content_read (shape_in run.config) content) (row-reads run content row)
    (ap (content_read (shape_in run.config)) (due-text run content row)
    ∙ content-is_read (shape_in run.config) (content_due run content row) (header, is))
