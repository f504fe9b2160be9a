use Rattle.digit_literals.proofs.Lists.{goes_on}
use Rattle.digit_literals.proofs.laws.lists.any_list_goes_on.Goals as goal

pub returns : goal.returns
returns g c =
    let r = g.R.ReadsOne in
    goes_on {V = r.Meaning} (λ x. x) (r.number_at c.args.reads c.args.text.now) r.none_at
    c.args.gap c.args.text.now
