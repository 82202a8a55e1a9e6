use Rattle.std.proofs.Common.{◌∙◌, sym}
use Rattle.std.proofs.lemmas.Result.{err_from_is_err_and}
use Rattle.clap.specs.Matches.{found_of}
use Rattle.clap.specs.Simple.{app_of}
use Rattle.clap.specs.Walk.{rows_of}
use Rattle.dissent_words.specs.Request.{texts}
use Rattle.dissent_words.proofs.Reading.{all_given, refused, seen, taken, values_refused}
use Rattle.dissent_words.proofs.values.given_words.Goals as goal

pub returns-in_err-matches : goal.returns-in_err-matches
returns-in_err-matches c =
    let p = err_from_is_err_and c.from_residual-in_err-matches.result c.from_residual-in_err-matches.ensures.1 in
    rw (p.1) (refused (seen c.args.options.now) c.args.takes_addresses (texts c.args.words.now) (app_of c.in_ok-command.command) c.in_ok-command.ensures
    c.in_err-matches.field-0.0 p.0 c.in_err-matches.ensures.kinds p.2)

pub returns-in_err-values : goal.returns-in_err-values
returns-in_err-values c =
    let p = err_from_is_err_and c.from_residual-in_err-values.result c.from_residual-in_err-values.ensures.1 in
    let rows = rows_of (found_of c.in_ok-matches.matches) in
    let given = taken (seen c.args.options.now) c.args.takes_addresses (texts c.args.words.now) (app_of c.in_ok-command.command) c.in_ok-command.ensures
    rows c.in_ok-matches.ensures.kinds (λ simple. (c.in_ok-matches.ensures.matches simple).0) in
    rw (p.1) (λ usage. values_refused (seen c.args.options.now) rows _ given (c.in_err-values.ensures (sym p.2 ∙ usage)))

pub returns : goal.returns
returns c =
    let rows = rows_of (found_of c.in_ok-matches.matches) in
    let given = taken (seen c.args.options.now) c.args.takes_addresses (texts c.args.words.now) (app_of c.in_ok-command.command) c.in_ok-command.ensures
    rows c.in_ok-matches.ensures.kinds (λ simple. (c.in_ok-matches.ensures.matches simple).0) in
    all_given (seen c.args.options.now) (seen c.in_ok-values.values.items) (seen c.in_ok-addresses.addresses.items) rows _ given
    c.in_ok-values.ensures c.in_ok-addresses.ensures
