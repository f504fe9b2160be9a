use Rattle.std.proofs.Common.{arith, sym, ◌∙◌, append-nil, ◌≡◌, [], ◌∷◌, ◌++◌, vec_len, ◌+◌}
use Rattle.std.proofs.lemmas.List.{drop_all}
use Rattle.digit_script.proofs.Scripts.{continues, looks_at_most, owes_at_most}
use Rattle.digit_script.proofs.run_in.Goals as goal

pub loop-call-preserved : goal.loop-call-preserved
loop-call-preserved g c =
    let now = c.loop-call.invariant in
    let items : c.push.new.self.items
    ≡ c.loop-call.answers.items ++ c.make-answer.result ∷ [] = rw c.unwrap.ensures at
    c.push.ensures.items in
    let len : vec_len c.push.new.self ≡ vec_len c.loop-call.answers + 1 =
    rw c.unwrap.ensures at c.push.ensures.len in
    record {
      room = omega arith;
      made = omega arith;
      continues = rw items (continues _ _ _ _ _ _ _ _ c.loop-call-test.true now.continues
          c.make-answer.ensures);
    }

pub returns : goal.returns
returns g c =
    let so_far = c.loop-call.invariant.continues in
    let done = rw (drop_all _ _ c.loop-call-test.false) at so_far in
    record {
      answers = sym (append-nil _) ∙ done.answers;
      state = done.state;
      looks = looks_at_most _ _ _ _ _ so_far;
      owes = owes_at_most _ _ _ _ done;
      memory = tt;
    }
