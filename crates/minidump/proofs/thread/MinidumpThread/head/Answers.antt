-- The text of the context is that of the one that was decoded.
use Rattle.std.proofs.Common.{◌++◌, ap}
use Rattle.minidump.specs.ThreadText.{thread_context_text, thread_head}
use Rattle.minidump.proofs.thread.MinidumpThread.head.Goals as goal

pub returns : goal.returns
returns c = ap (λ context. thread_head c.args.self.now.raw ++ thread_context_text context) c.known_context.ensures
