use Rattle.lexical_format.proofs.Building.{says, supported}
use Rattle.lexical_format.proofs.builder.NumberFormatBuilder.build.Goals as goal

pub returns-clause-says : goal.returns-clause-says
returns-clause-says c =
    let fits = c.sum.ensures.fits in
    says c.args.self c.sum.result fits.0 fits.1 fits.2 c.sum.ensures.value

pub returns-clause-supported : goal.returns-clause-supported
returns-clause-supported c =
    supported c.args.self c.sum.result (returns-clause-says c)
