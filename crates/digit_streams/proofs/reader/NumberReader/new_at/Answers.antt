use Rattle.std.proofs.Common.{◌≡◌, [], refl}
use Rattle.std.specs.Prelude.{List, ℕ, Option, None, Some}
use Rattle.std.specs.Io.KnownBytes.{prepend_known}
use Rattle.digit_streams.specs.Windows.{bytes_left}
use Rattle.digit_streams.specs.Streams.{stream_list}
use Rattle.digit_streams.proofs.Given.{given_none, none_yet}
use Rattle.digit_streams.proofs.reader.NumberReader.new_at.Goals as goal

none_first : (known : Option (List ℕ)) → prepend_known [] known ≡ known
none_first None = refl
none_first (Some bytes) = refl

pub returns-clause-given : goal.returns-clause-given
returns-clause-given g c =
    let k = g.K.Kind in
    let known = g.R.Read.remaining c.args.reader in
    let one = k.number_at c.args.kind in
    let same : bytes_left c.new.result known ≡ known =
    rw c.new.ensures.unread (none_first known) in
    given_none (stream_list one k.none_at k.error_later c.args.gap) known _ _ c.args.offset None
    (none_yet one k.none_at k.error_later c.args.gap c.args.offset) same c.new.ensures.position refl
