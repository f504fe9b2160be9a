use Rattle.digit_numbers.proofs.Json.{integer_in, float_in, fits_in, rounds_in}
use Rattle.digit_numbers.proofs.laws.json_numbers_are_read.Goals as goal

pub returns-clause-sign : goal.returns-clause-sign
returns-clause-sign g c n m w end h =
    (integer_in c.args.text.now c.args.start c.requires g.F.Float.format n m w end h).0

pub returns-clause-value : goal.returns-clause-value
returns-clause-value g c n m w end most h none =
    (integer_in c.args.text.now c.args.start c.requires g.F.Float.format n m w end h).1 none most

pub returns-clause-nearest : goal.returns-clause-nearest
returns-clause-nearest g c = float_in c.args.text.now c.args.start c.requires g.F.Float.format

pub returns-clause-fits : goal.returns-clause-fits
returns-clause-fits g c = fits_in c.args.text.now c.args.start c.requires g.F.Float.format

pub returns-clause-rounds : goal.returns-clause-rounds
returns-clause-rounds g c = rounds_in c.args.text.now c.args.start c.requires g.F.Float.format
