-- The members, a part after another.
use Rattle.std.proofs.Common.{rules}
use Rattle.crash_json.specs.Minidump.{minidump_json}
use Rattle.crash_json.specs.ReportValue.{report_of}
use Rattle.crash_json.proofs.Tokens.{in_object, more, named}
use Rattle.crash_json.proofs.report.ReportToJson.put.Goals as goal

pub returns : goal.returns
returns c = record {
  tokens = rw (in_object _ _ _ _ c.in_ok-begin_object.ensures.ok
      (more _ _ _ _ _ c.in_ok-add_path.ensures.tokens (more _ _ _ _ _ c.in_ok-add_system.ensures.tokens
      (more _ _ _ _ _ (named _ _ _ _ _ c.in_ok-key.ensures.ok c.in_ok-put_modules.ensures.tokens)
      (more _ _ _ _ _ c.in_ok-add_before_threads.ensures.tokens
      (more _ _ _ _ _ (named _ _ _ _ _ c.in_ok-key-2.ensures.ok c.in_ok-put_threads.ensures.tokens)
      (more _ _ _ _ _ (named _ _ _ _ _ c.in_ok-key-3.ensures.ok c.in_ok-put_crashing.ensures.tokens)
      (more _ _ _ _ _ c.in_ok-add_streams.ensures.tokens
      (named _ _ _ _ (minidump_json (report_of c.args.self.now)) c.in_ok-key-4.ensures.ok c.in_ok-put_minidump.ensures.tokens)))))))))
      at c.end_object.ensures.ok;
  before = search rules;
}
