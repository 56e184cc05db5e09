use Rattle.std.proofs.Common.{◌<◌, rules}
use Rattle.bits.proofs.Sets.{some_bit}
use Rattle.bits.proofs.members.MembersIterator.next.Goals as goal

pub returns-clause-goes : goal.returns-clause-goes
returns-clause-goes c =
    let some : 0 < c.args.self.now.0 = some_bit c.args.self.now.0 c.in_ok-member.member c.in_ok-member.ensures.1 in
    let less = c.without_lowest-self.ensures.less some in
    search rules
