use Rattle.std.proofs.Common.{◌∙◌, sym}
use Rattle.std.proofs.lemmas.Result.{err_from_is_err_and}
use Rattle.dissent_words.specs.Request.{texts}
use Rattle.dissent_words.specs.Forms.{show_form}
use Rattle.dissent_words.specs.Views.{given_of}
use Rattle.dissent_words.proofs.Requests.{asked, nothing_asked}
use Rattle.dissent_words.proofs.words.show_words.Goals as goal

pub returns-in_err-given : goal.returns-in_err-given
returns-in_err-given c =
    let p = err_from_is_err_and c.from_residual.result c.from_residual.ensures.1 in
    rw (p.1) (λ usage. nothing_asked show_form (texts c.args.words.now) (c.in_err-given.ensures (sym p.2 ∙ usage)))

pub returns : goal.returns
returns c = asked show_form (texts c.args.words.now) (given_of c.in_ok-given.given) c.show.result c.in_ok-given.ensures c.show.ensures
