-- The rows of every call ascend, so the law of the refusal table holds of them. Assumes nothing.
use Rattle.answer.specs.Refusals.{ascends}
use Rattle.answer.proofs.Table.{by_the_table}
use Rattle.offset.specs.Record.{record_checks, read_checks, write_checks}
use Rattle.offset.specs.Restore.{restore_checks}
use Rattle.offset.specs.Exact.{ExactlyWhen}

pub exactly_when : ExactlyWhen
unfolding ascends record_checks
exactly_when =
    record {
      check_record = λ size version s m f. by_the_table (record_checks size version s m f) tt;
      record_refusal = λ size version s m f. by_the_table (record_checks size version s m f) tt;
      write_offset = λ o room. by_the_table (write_checks o room) tt;
      read_offset = λ s. by_the_table (read_checks s) tt;
      restore = λ b s m. by_the_table (restore_checks b s m) tt;
    }
