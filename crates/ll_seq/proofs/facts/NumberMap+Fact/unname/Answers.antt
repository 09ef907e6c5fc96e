use Rattle.std.proofs.Common.{sym, subst}
use Rattle.ll_seq.proofs.FactsKept.{Steps, both_steps, less_names, less_links, name_gone, kept_taken, kept_let_go, goes}
use Rattle.ll_seq.proofs.facts.NumberMap+Fact.unname.Goals as goal

pub returns-clause-kept : goal.returns-clause-kept
returns-clause-kept c s at kept directory there =
    let steps = both_steps c.args.self.now c.take_name.new.self c.take_link.new.self (less_names c.args.directory)
    (less_links c.args.inode) c.take_name.ensures c.take_link.ensures in
    let taken = kept_taken s at c.args.self.now c.take_link.new.self c.args.inode kept
    (subst (λ d. Steps c.args.self.now c.take_link.new.self (λ q x. less_links c.args.inode q (less_names d q x)))
    (sym directory) steps) there in
    kept_let_go (name_gone s at) c.take_link.new.self c.let_go.new.self c.args.inode c.let_go.result taken
    c.let_go.ensures.dead c.let_go.ensures.left

pub returns-clause-goes : goal.returns-clause-goes
returns-clause-goes c s at kept directory there node =
    let steps = both_steps c.args.self.now c.take_name.new.self c.take_link.new.self (less_names c.args.directory)
    (less_links c.args.inode) c.take_name.ensures c.take_link.ensures in
    let taken = kept_taken s at c.args.self.now c.take_link.new.self c.args.inode kept
    (subst (λ d. Steps c.args.self.now c.take_link.new.self (λ q x. less_links c.args.inode q (less_names d q x)))
    (sym directory) steps) there in
    goes (name_gone s at) c.take_link.new.self c.let_go.new.self c.args.inode c.let_go.result taken
    c.let_go.ensures.dead node
