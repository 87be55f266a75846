-- The code's calls are the steps of a run: `Covered` holds, since that is so of every outline. Assumes nothing.
use Rattle.answer.specs.Rows.{number_in}
use Rattle.answer.specs.Runs.{answer, number}
use Rattle.answer.proofs.Running as outline
use Rattle.reached.specs.Runs.{update, restart, skip_startup, set_settings, set_sample_period, set_quaternion, outline_of, Covered}
use Rattle.reached.specs.Runs.{set_heading, update_external_heading, update_no_magnetometer}

pub covered : Covered
covered =
    record {
      of_update = λ s g a m r p. outline.covered _ s (outline_of s (update g a m)) r.state (answer r.answer) p;
      of_restart = λ s r p. outline.covered _ s (outline_of s restart) r.state (number (number_in r.result)) p;
      of_skip_startup = λ s r p. outline.covered _ s (outline_of s skip_startup) r.state (number (number_in r.result)) p;
      of_settings = λ s t r p. outline.covered _ s (outline_of s (set_settings t)) r.state (number (number_in r.result)) p;
      of_sample_period = λ s x r p. outline.covered _ s (outline_of s (set_sample_period x)) r.state (number (number_in r.result)) p;
      of_quaternion = λ s q r p. outline.covered _ s (outline_of s (set_quaternion q)) r.state (number (number_in r.result)) p;
      of_heading = λ s h r p. outline.covered _ s (outline_of s (set_heading h)) r.state (number (number_in r.result)) p;
      of_external_heading = λ s g a h r p. outline.covered _ s (outline_of s (update_external_heading g a h)) r.state (answer r.answer) p;
      of_no_magnetometer = λ s g a r p. outline.covered _ s (outline_of s (update_no_magnetometer g a)) r.state (answer r.answer) p;
    }
