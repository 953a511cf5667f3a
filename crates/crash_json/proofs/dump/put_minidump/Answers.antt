-- The members, a part after another.
use Rattle.std.proofs.Common.{rules}
use Rattle.crash_json.proofs.Tokens.{in_object, more}
use Rattle.crash_json.proofs.dump.put_minidump.Goals as goal

pub returns : goal.returns
returns c = record {
  tokens = rw (in_object _ _ _ _ c.in_ok-begin_object.ensures.ok (more _ _ _ _ _ c.in_ok-add_process.ensures.tokens
      (more _ _ _ _ _ c.in_ok-add_file.ensures.tokens c.in_ok-add_signature.ensures.tokens))) at c.end_object.ensures.ok;
  before = search rules;
}
