use Rattle.sheet.proofs.Output.{none_written, link_written}
use Rattle.sheet.proofs.put_links.Goals as goal

pub loop-i-init : goal.loop-i-init
loop-i-init c = none_written c.args.net.now.low c.args.net.now.high c.args.out.now

pub loop-i-preserved : goal.loop-i-preserved
loop-i-preserved c =
    let n = c.args.net.now in
    link_written n.low n.high n.links c.loop-i.i c.args.out.now c.loop-i.out c.put.new.out c.loop-i.invariant c.loop-i-test.true
    c.requires.1 c.put.ensures.output
