use Rattle.std.proofs.Common.{◌≡◌, ℕ, ◌-◌, List, [], length, drop}
use Rattle.std.specs.Prelude.{IfSome}
use Rattle.digit_pieces.specs.Texts.{IsApart}
use Rattle.digit_streams.specs.Streams.{Gives, GoesOn, HasReason, IfEndsFault, IsPlace, end_of_next, ended_by, list_of_option, next_again, next_of, stream_list}
use Rattle.digit_streams.proofs.Calls.{calls_go_on}
use Rattle.digit_streams.proofs.Given.{given_all, given_from_all, given_next, told_again}
use Rattle.digit_streams.proofs.Single.{ends_so, gives_next, next_end, none_list, none_then, numbers_are}
use Rattle.digit_streams.proofs.reader.NumberReader.next_number.Goals as goal

pub returns-clause-next : goal.returns-clause-next
returns-clause-next g c =
    let k = g.K.Kind in
    let reader = c.args.self.now in
    let kind = reader.kind in
    let read = c.read_one-number in
    rw c.next_of.ensures
    (gives_next k.meaning (k.number_at kind) k.none_at k.error_later reader.gap reader.position
    reader.ended reader.bytes (IsApart (k.has_byte kind) reader.gap) read.result.0 read.result.1
    read.ensures.full read.ensures.list)

pub returns-clause-list : goal.returns-clause-list
returns-clause-list g c =
    let k = g.K.Kind in
    let reader = c.args.self.now in
    let kind = reader.kind in
    let read = c.read_one-number in
    let new = read.new.self in
    let Apart = IsApart (k.has_byte kind) reader.gap in
    let list = λ (bytes : List ℕ).
    stream_list (k.number_at kind) k.none_at k.error_later reader.gap reader.position bytes 1 in
    rw (c.next_of.ensures, numbers_are k.meaning read.result.0 read.result.1)
    (none_then reader.ended (λ end. IfSome reader.bytes (λ bytes. Apart → Gives (list bytes)
    (list_of_option k.meaning read.result.0) end))
    (end_of_next (next_of read.result.0 read.result.1) new.position new.ended) read.result.1
    (next_end reader.ended read.result.0 read.result.1 new.position new.capacity (length new.held)
    new.ended read.ensures.full read.ensures.fault read.ensures.place read.ensures.ended)
    (none_list reader.ended reader.bytes Apart list (list_of_option k.meaning read.result.0)
    read.result.1 read.ensures.list))

pub returns-clause-end : goal.returns-clause-end
returns-clause-end g c =
    let reader = c.args.self.now in
    let read = c.read_one-number in
    let new = read.new.self in
    rw c.next_of.ensures
    (none_then reader.ended (λ end. IsPlace end new.position new.capacity (length new.held))
    (end_of_next (next_of read.result.0 read.result.1) new.position new.ended) read.result.1
    (next_end reader.ended read.result.0 read.result.1 new.position new.capacity (length new.held)
    new.ended read.ensures.full read.ensures.fault read.ensures.place read.ensures.ended)
    read.ensures.place)

pub returns-clause-given_from : goal.returns-clause-given_from
returns-clause-given_from g c = λ start from known before apart given.
    let k = g.K.Kind in
    let m = g.met.K.Kind in
    let reader = c.args.self.now in
    let kind = reader.kind in
    let read = c.read_one-number in
    let new = read.new.self in
    let list = stream_list (k.number_at kind) k.none_at k.error_later reader.gap in
    let law = calls_go_on (k.number_at kind) k.none_at k.error_later (k.has_byte kind) reader.gap
    (record {
      follows = λ text other at start upto from.
          m.follows kind text other at start read.ensures.valid upto from;
      precedes = λ text from at within fresh.
          m.precedes kind text from at read.ensures.valid within fresh;
      ends = λ text start end x within is.
          m.ends kind text start end x read.ensures.valid within is;
      none_later = m.none_later;
    }) apart in
    let again : IfSome reader.ended (λ ended. c.next_of.result ≡ next_again ended) =
    rw c.next_of.ensures
    (told_again reader.ended read.result.0 read.result.1 read.ensures.again) in
    given_next list k.meaning before start from reader.position new.position new.ended
    c.next_of.result (λ n text. law text m.later_more from 1 n)
    (IsApart (k.has_byte kind) reader.gap) reader.ended known reader.bytes new.bytes new.capacity
    (length new.held) given apart (returns-clause-list g c) read.ensures.uses
    (returns-clause-end g c) again read.ensures.still

pub returns-clause-given : goal.returns-clause-given
returns-clause-given g c = λ known before apart given.
    let from_all = given_from_all _ known _ before _ _ given in
    given_all _ known _ _ _ _ (returns-clause-given_from g c 0 0 known before apart from_all)

pub returns-clause-reason : goal.returns-clause-reason
returns-clause-reason g c =
    let k = g.K.Kind in
    let reader = c.args.self.now in
    let kind = reader.kind in
    let read = c.read_one-number in
    let new = read.new.self in
    rw c.next_of.ensures
    (none_then reader.ended (λ end. HasReason (k.number_at kind) k.none_at k.error_at
    (k.has_byte kind) reader.gap end new.position new.held)
    (end_of_next (next_of read.result.0 read.result.1) new.position new.ended) read.result.1
    (next_end reader.ended read.result.0 read.result.1 new.position new.capacity (length new.held)
    new.ended read.ensures.full read.ensures.fault read.ensures.place read.ensures.ended)
    read.ensures.reason)

pub returns-clause-onward : goal.returns-clause-onward
returns-clause-onward g c =
    let k = g.K.Kind in
    let reader = c.args.self.now in
    let kind = reader.kind in
    let read = c.read_one-number in
    let new = read.new.self in
    let list = stream_list (k.number_at kind) k.none_at k.error_later reader.gap in
    rw c.next_of.ensures
    (none_then reader.ended (λ end. IfEndsFault end (IfSome reader.bytes (λ bytes.
    IsApart (k.has_byte kind) reader.gap → GoesOn (list reader.position bytes 1) []
    (list new.position (drop (new.position - reader.position) bytes) 1))))
    (end_of_next (next_of read.result.0 read.result.1) new.position new.ended) read.result.1
    (next_end reader.ended read.result.0 read.result.1 new.position new.capacity (length new.held)
    new.ended read.ensures.full read.ensures.fault read.ensures.place read.ensures.ended)
    read.ensures.onward)

pub returns-clause-goes_on : goal.returns-clause-goes_on
returns-clause-goes_on g c =
    let reader = c.args.self.now in
    let read = c.read_one-number in
    let new = read.new.self in
    rw c.next_of.ensures
    (none_then reader.ended (λ end. new.ended ≡ ended_by end)
    (end_of_next (next_of read.result.0 read.result.1) new.position new.ended) read.result.1
    (next_end reader.ended read.result.0 read.result.1 new.position new.capacity (length new.held)
    new.ended read.ensures.full read.ensures.fault read.ensures.place read.ensures.ended)
    read.ensures.ended)

pub returns-clause-ended : goal.returns-clause-ended
returns-clause-ended g c =
    let read = c.read_one-number in
    rw c.next_of.ensures
    (ends_so c.args.self.now.ended read.result.0 read.result.1 read.new.self.ended
    read.ensures.full read.ensures.ended read.ensures.again read.ensures.stays)
