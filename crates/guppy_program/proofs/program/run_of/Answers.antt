use Rattle.guppy_program.proofs.program.run_of.Goals as goal

pub returns : goal.returns
returns g c =
    let r = c.run_with.ensures in
    record {
      ok = r.ok;
      arguments_read = r.arguments_read;
      fault = r.fault;
      input_fails = r.input_failed;
      output_fails = r.output_failed;
      refused = r.refused;
      begun = r.begun;
    }
