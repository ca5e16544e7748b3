use Rattle.std.proofs.Common.{length, refl}
use Rattle.generated_report.proofs.Counting.{are_counts}
use Rattle.generated_report.proofs.counts.Counts.of.Goals as goal

pub returns : goal.returns
returns c project glosses net words names told =
    are_counts project glosses net words c.args.told.now
    (record {
      names = c.args.names;
      words = length c.args.told.now;
      one = c.count_of.result;
      many = c.count_of-2.result;
      none = c.count_of-3.result;
      columns = c.columns_of.result;
    })
    told names refl c.count_of.ensures c.count_of-2.ensures c.count_of-3.ensures c.columns_of.ensures
