use Rattle.digit_literals.proofs.ListEnds.{end_says}
use Rattle.digit_literals.proofs.laws.lists.any_list_ends_say.Goals as goal

pub returns : goal.returns
returns g c =
    let r = g.R.ReadsOne in
    end_says r.meaning (r.number_at c.args.reads c.args.text.now) r.none_at c.args.gap
    c.args.text.now
