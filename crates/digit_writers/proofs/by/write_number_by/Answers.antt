use Rattle.digit_writers.proofs.LaidReading.{answer_is_read, answer_written, answer_rest, answer_within, no_room_less, no_room_needed, no_room_unchanged}
use Rattle.digit_writers.proofs.by.write_number_by.Goals as goal

pub returns-clause-written : goal.returns-clause-written
returns-clause-written g c =
    let p = c.parts-is_negative in
    answer_written c.args.layout p.result.0 p.result.1 _ c.args.out.now c.put_laid.new.out
    p.ensures.minus
    p.ensures.number c.put_laid.result c.put_laid.ensures.written

pub returns-clause-rest : goal.returns-clause-rest
returns-clause-rest g c =
    let p = c.parts-is_negative in
    answer_rest c.args.layout p.result.0 p.result.1 _ c.args.out.now c.put_laid.new.out
    p.ensures.minus
    p.ensures.number c.put_laid.result c.put_laid.ensures.written

pub returns-clause-within : goal.returns-clause-within
returns-clause-within g c =
    let p = c.parts-is_negative in
    answer_within c.args.layout p.result.0 p.result.1 _ c.args.out.now c.put_laid.new.out
    p.ensures.minus
    p.ensures.number c.put_laid.result c.put_laid.ensures.written

pub returns-clause-no_room : goal.returns-clause-no_room
returns-clause-no_room g c =
    let p = c.parts-is_negative in
    no_room_less c.args.layout p.result.0 p.result.1 _ c.args.out.now c.put_laid.new.out
    p.ensures.minus
    p.ensures.number c.put_laid.result c.put_laid.ensures.no_room

pub returns-clause-needed : goal.returns-clause-needed
returns-clause-needed g c =
    let p = c.parts-is_negative in
    no_room_needed c.args.layout p.result.0 p.result.1 _ c.args.out.now c.put_laid.new.out
    p.ensures.minus
    p.ensures.number c.put_laid.result c.put_laid.ensures.no_room

pub returns-clause-unchanged : goal.returns-clause-unchanged
returns-clause-unchanged g c =
    let p = c.parts-is_negative in
    no_room_unchanged c.args.layout p.result.0 p.result.1 _ c.args.out.now c.put_laid.new.out
    p.ensures.minus
    p.ensures.number c.put_laid.result c.put_laid.ensures.no_room

pub returns-clause-reads : goal.returns-clause-reads
returns-clause-reads g c = λ word by.
    let p = c.parts-is_negative in
    answer_is_read word _ _ p.result.1 c.args.layout p.result.0 _ c.args.out.now c.put_laid.new.out
    c.put_laid.result by p.ensures.fits p.ensures.minus p.ensures.number c.put_laid.ensures.written
