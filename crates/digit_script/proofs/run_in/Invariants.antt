-- There is room for each answer that is still to come.
use Rattle.std.proofs.Common.{◌≡◌, ◌≤◌, length, drop, vec_len, vec_capacity}
use Rattle.digit_script.specs.Script.{script_of}
use Rattle.digit_script.proofs.Scripts.{Continues}
use Rattle.digit_script.proofs.run_in.Given as goal

abbrev pub invariant-loop-call : goal.invariant-loop-call
invariant-loop-call g l = record {
  room : length l.calls ≤ vec_capacity l.answers;
  made : vec_len l.answers ≡ l.call-index;
  continues : Continues l.initial.bytes (script_of l.calls) l.bytes
      (script_of (drop l.call-index l.calls)) l.answers.items;
}
