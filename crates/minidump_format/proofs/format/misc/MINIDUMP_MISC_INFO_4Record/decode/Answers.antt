-- Each field is read at its offset.
use Rattle.minidump_format.proofs.format.misc.MINIDUMP_MISC_INFO_4Record.decode.Goals as goal

pub returns : goal.returns
returns c = λ i. record {
  size_of_info = c.u32_at.ensures i;
  flags1 = c.u32_at-2.ensures i;
  process_id = c.u32_at-3.ensures i;
  process_create_time = c.u32_at-4.ensures i;
  process_user_time = c.u32_at-5.ensures i;
  process_kernel_time = c.u32_at-6.ensures i;
  processor_max_mhz = c.u32_at-7.ensures i;
  processor_current_mhz = c.u32_at-8.ensures i;
  processor_mhz_limit = c.u32_at-9.ensures i;
  processor_max_idle_state = c.u32_at-10.ensures i;
  processor_current_idle_state = c.u32_at-11.ensures i;
  process_integrity_level = c.u32_at-12.ensures i;
  process_execute_flags = c.u32_at-13.ensures i;
  protected_process = c.u32_at-14.ensures i;
  time_zone_id = c.u32_at-15.ensures i;
  time_zone = c.decode.ensures i;
  build_string = c.array_at.ensures i;
  dbg_bld_str = c.array_at-2.ensures i;
}
