use Rattle.std.proofs.lemmas.Result.{err_from_is_err_and}
use Rattle.wiring.proofs.Begin.{begin_ended, begin_stopped, begin_unsized, begin_made}
use Rattle.wiring.proofs.opening.sizes.Goals as goal

pub returns-in_err-record : goal.returns-in_err-record
returns-in_err-record c =
    let s = c.args.reader.now in
    let t = c.next.new.self in
    let e = err_from_is_err_and c.from_residual.result c.from_residual.ensures.1 in
    let h = c.in_err-record.ensures in
    record {
      opens = begin_stopped 200 s.bytes.now s.at s.phase t.at t.phase c.requires.start c.requires.phase
          c.in_err-record.field-0.0 e.0 c.from_residual.result e.1 e.2 h.reads;
      bytes = h.bytes;
    }

pub returns-in_default : goal.returns-in_default
returns-in_default c =
    let s = c.args.reader.now in
    let t = c.next.new.self in
    let h = c.in_ok-record.ensures in
    record {
      opens = begin_ended 200 s.bytes.now s.at s.phase t.at t.phase c.requires.start c.requires.phase
          c.in_ok-record.field-0 c.in_default.is h.reads;
      bytes = h.bytes;
    }

pub returns-in_err-site_sizes-in-Sizes : goal.returns-in_err-site_sizes-in-Sizes
returns-in_err-site_sizes-in-Sizes c =
    let s = c.args.reader.now in
    let t = c.next.new.self in
    let h = c.in_ok-record.ensures in
    let a = c.from_residual-in_err-site_sizes-in-Sizes in
    let e = err_from_is_err_and a.result a.ensures.1 in
    record {
      opens = begin_unsized 200 s.bytes.now s.at s.phase t.at t.phase c.requires.start c.requires.phase
          c.in-Some.«record» c.in_ok-record.field-0 c.in-Some.is h.reads
          c.in-Sizes.nodes c.in-Sizes.labels c.in-Sizes.is
          c.in_err-site_sizes-in-Sizes.field-0.0 e.0 a.result e.1 e.2 c.in_err-site_sizes-in-Sizes.ensures;
      bytes = h.bytes;
    }

pub returns : goal.returns
returns c =
    let s = c.args.reader.now in
    let t = c.next.new.self in
    let h = c.in_ok-record.ensures in
    record {
      opens = begin_made 200 s.bytes.now s.at s.phase t.at t.phase c.requires.start c.requires.phase
          c.in-Some.«record» c.in_ok-record.field-0 c.in-Some.is h.reads
          c.in-Sizes.nodes c.in-Sizes.labels c.in-Sizes.is
          c.in_ok-site_sizes-in-Sizes.field-0 c.in_ok-site_sizes-in-Sizes.ensures;
      bytes = h.bytes;
    }
