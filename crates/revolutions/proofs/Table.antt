-- Every row of the table holds: each was computed in the crate that it speaks of.
use Rattle.tape.proofs.Rows as tape
use Rattle.forward.proofs.Rows as forward
use Rattle.revolutions.specs.Table.{ProvedTable}

pub proved_table : ProvedTable
proved_table =
    let (p1, (p1_to_mark, (p2, (p3, (p4, (p5, (p6, (p7, (p7_past, (p8, _)))))))))) = tape.every_row in
    (p1, (p1_to_mark, (p2, (p3, (p4, (p5, (p6, (p7, (p7_past, (p8, forward.every_row))))))))))
