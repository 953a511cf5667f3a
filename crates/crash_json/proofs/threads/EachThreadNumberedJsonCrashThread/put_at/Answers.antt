-- The index, the members, and then the frames.
use Rattle.std.proofs.Common.{refl, rules}
use Rattle.crash_threads.specs.Threads.{thread_value}
use Rattle.crash_symbols.specs.NameParts.{named_of}
use Rattle.crash_json.specs.Frames.{frame_json}
use Rattle.crash_json.specs.ReportValue.{report_of}
use Rattle.crash_json.proofs.Tokens.{in_object, more, named_array}
use Rattle.crash_json.proofs.threads.EachThreadNumberedJsonCrashThread.put_at.Goals as goal

pub returns : goal.returns
returns c =
    let frame = frame_json (report_of c.args.self.now.report) c.args.self.now.is_crashing (thread_value c.args.item.now) in
    let members = rw c.shown_walk-walk.ensures at c.in_ok-add_thread.ensures.tokens in
    let values = rw c.shown_walk-walk.ensures at c.in_ok-frames.ensures in
    let frames = named_array frame frame named_of _ _ _ _ _ _ refl values c.in_ok-key.ensures.ok c.in_ok-put.ensures.tokens in
    record {
      tokens = rw (in_object _ _ _ _ c.in_ok-begin_object.ensures.ok
          (more _ _ _ _ _ c.in_ok-add_index.ensures.tokens (more _ _ _ _ _ members frames))) at c.end_object.ensures.ok;
      before = search rules;
    }
