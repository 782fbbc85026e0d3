use Rattle.address_table.proofs.Formats.{table-more}
use Rattle.address_table.proofs.laws.what_format_1_reads_format_2_reads.Goals as goal

pub returns : goal.returns
returns c = table-more
